pub mod Collecting
pub mod Finishing
