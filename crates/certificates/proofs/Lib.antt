pub mod EdgeLemmas
pub mod FaceLemmas
mod ZeroLemmas
mod ZeroFlows
pub mod TileParts
pub mod CostLemmas
mod OverLemmas
pub mod EdgeCosts
mod FreeRows
mod FitRows
mod RangeLemmas
mod RowLemmas
pub mod VerdictLemmas
mod WholeLemmas
pub mod Unique
pub mod CallerLemmas
pub mod SeamLemmas
pub mod FlowSums
pub mod EdgeBlocks
pub mod EndLemmas
pub mod PassLemmas
pub mod SeamCosts
pub mod SeamVerdictLemmas
pub mod UniqueSeams
pub mod CutLemmas
