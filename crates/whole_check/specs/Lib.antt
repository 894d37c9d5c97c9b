pub mod Judged
pub mod Same
pub mod Verdicts
