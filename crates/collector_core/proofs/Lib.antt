pub mod JoinLemmas
pub mod CollectLemmas
pub mod CountLemmas
pub mod HistoryLemmas
pub mod RefusalLemmas
