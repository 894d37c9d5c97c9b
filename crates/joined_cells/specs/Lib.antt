pub mod Forest
pub mod Joining
pub mod Flood
pub mod Trees
pub mod Measures
