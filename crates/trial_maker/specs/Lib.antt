pub mod Trials
pub mod Drawn
