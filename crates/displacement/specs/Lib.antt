pub mod Blocks
pub mod Displacements
pub mod Laws
pub mod Steps
