pub mod Refusals
pub mod RefusalLines
pub mod TrialLines
pub mod VerdictLines
pub mod WatchLines
pub mod WholeLines
