pub mod ColumnLemmas
pub mod TileTests
pub mod PieceLemmas
pub mod NumberLemmas
pub mod Sparse
pub mod RegionLemmas
pub mod CallerLemmas
