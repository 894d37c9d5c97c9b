pub mod BlockLemmas
pub mod ComputedLemmas
pub mod DisplacingLemmas
pub mod LawLemmas
pub mod MeanLemmas
pub mod TotalLemmas
