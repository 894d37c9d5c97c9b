pub mod Dealing
pub mod Passages
pub mod Rooms
