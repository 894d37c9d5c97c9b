pub mod Products
pub mod Tests
pub mod Orders
pub mod Lists
pub mod SumLemmas
pub mod CountLemmas
