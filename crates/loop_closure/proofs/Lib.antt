pub mod LoopLemmas
pub mod SumLemmas
pub mod TextLemmas
pub mod Unique
