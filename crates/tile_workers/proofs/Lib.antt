pub mod ScriptLemmas
pub mod ClaimLemmas
pub mod GatherLemmas
mod EarlyLemmas
pub mod FreshLemmas
pub mod CallerLemmas
pub mod RisingLemmas
pub mod WatchLemmas
