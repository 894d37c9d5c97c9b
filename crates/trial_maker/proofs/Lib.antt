pub mod DrawLemmas
pub mod SessionLemmas
pub mod Examples
