pub mod PushLemmas
pub mod RoomLemmas
pub mod AddLemmas
pub mod CallerLemmas
pub mod LeastLemmas
