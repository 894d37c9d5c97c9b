pub mod Cycles
pub mod Rows
