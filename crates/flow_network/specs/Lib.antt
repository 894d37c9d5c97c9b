pub mod Nets
pub mod Moves
pub mod Growing
pub mod Lists
pub mod Views
pub mod Laws
