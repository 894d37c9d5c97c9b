pub mod Length
pub mod Parts
pub mod Reading
pub mod Text
pub mod Told
