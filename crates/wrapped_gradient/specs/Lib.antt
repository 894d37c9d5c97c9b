pub mod Windows
pub mod GradientsView
pub mod Gradients
pub mod Corrections
pub mod Rows
