pub mod RiseLemmas
pub mod RowLemmas
pub mod Filled
pub mod CycleLemmas
pub mod CallerLemmas
mod OnExamples
