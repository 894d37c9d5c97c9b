pub mod Cycles
pub mod Results
pub mod Solved
