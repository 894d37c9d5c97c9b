pub mod Adapters
pub mod Bytes
pub mod Calls
pub mod Feeding
pub mod Lines
pub mod Memory
pub mod Plans
