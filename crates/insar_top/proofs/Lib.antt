pub mod ScreenLemmas
pub mod CheckLemmas
pub mod BoundLemmas
pub mod BrokenLemmas
pub mod EndClauses
