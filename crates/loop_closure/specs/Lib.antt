pub mod Closure
pub mod Laws
pub mod LoopText
pub mod Parts
