pub mod ResultLemmas
pub mod ZeroLemmas
