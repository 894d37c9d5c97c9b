pub mod Found
pub mod Scripts
pub mod Watching
