pub mod PatchesView
pub mod Patches
pub mod Screened
pub mod Laws
pub mod Flood
pub mod Sums
pub mod Keys
pub mod Keeping
