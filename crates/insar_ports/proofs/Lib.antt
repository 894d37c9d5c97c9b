pub mod CallerLemmas
pub mod CallLemmas
mod FeedLemmas
mod LineLemmas
mod MemoryLemmas
mod OnExamples
