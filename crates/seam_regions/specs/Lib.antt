pub mod RegionsView
pub mod Regions
pub mod Offsets
pub mod Flood
