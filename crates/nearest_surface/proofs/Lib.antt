pub mod LawLemmas
pub mod PlaceLemmas
pub mod ValueLemmas
