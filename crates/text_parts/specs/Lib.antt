pub mod Parts
pub mod Reading
pub mod Steps
pub mod Terms
pub mod Text
