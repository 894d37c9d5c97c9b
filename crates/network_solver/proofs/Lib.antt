pub mod LevelLemmas
pub mod BlockLemmas
pub mod SurfaceLemmas
