pub mod Fresh
pub mod Leveled
pub mod Views
