pub mod Boxes
pub mod Differences
pub mod MetTiles
pub mod Parts
pub mod Histories
pub mod WindowLists
pub mod CallerLemmas
