pub mod Fronts
pub mod Rules
pub mod Seats
pub mod Reads
