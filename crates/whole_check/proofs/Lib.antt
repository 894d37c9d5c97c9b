pub mod HeadLemmas
pub mod StandLemmas
pub mod UniqueLemmas
pub mod CheckLemmas
pub mod SameLemmas
mod TaskLemmas
