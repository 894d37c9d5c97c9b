pub mod HeadLemmas
mod MaskLemmas
mod SurfaceLemmas
mod ShownLemmas
pub mod UniqueLemmas
mod ReplayLemmas
mod HistoryLemmas
mod ReportLemmas
mod EqualReports
pub mod EqualSessions
pub mod EqualVerdicts
