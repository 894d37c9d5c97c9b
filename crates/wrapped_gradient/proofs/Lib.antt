pub mod Places
pub mod RowLemmas
pub mod ResidueLemmas
pub mod GradientLemmas
pub mod CorrectionLemmas
pub mod DifferenceLemmas
mod OnExamples
