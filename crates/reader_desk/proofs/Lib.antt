mod Adding
pub mod Beginnings
mod Naming
