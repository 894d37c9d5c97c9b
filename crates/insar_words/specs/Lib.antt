pub mod Limits
pub mod Forms
pub mod Stated
pub mod Asked
pub mod Values
pub mod PlainForms
pub mod Requests
pub mod Faults
