pub mod Verdicts
pub mod Shown
pub mod Replays
pub mod Same
