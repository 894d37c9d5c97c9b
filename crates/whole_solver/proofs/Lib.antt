pub mod Anchors
pub mod Places
pub mod RightLemmas
pub mod Shifts
pub mod WholeLemmas
