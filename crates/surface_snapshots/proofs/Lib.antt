mod ShiftedLemmas
mod MaskLemmas
mod CostLemmas
mod FreeLemmas
mod LevelLemmas
mod RowLemmas
mod StripLemmas
mod MarkLemmas
mod PackingLemmas
mod RunLemmas
mod TiledLemmas
pub mod VerdictLemmas
mod PublishedLemmas
pub mod CallerLemmas
pub mod SameLemmas
pub mod PartsLemmas
