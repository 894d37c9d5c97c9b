pub mod Mine
pub mod Passes
pub mod Answers
pub mod Rules
pub mod Seats
