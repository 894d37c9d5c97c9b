pub mod KeyLemmas
pub mod PatchLemmas
pub mod SumLemmas
pub mod KeepLemmas
pub mod SameKeys
pub mod ScreenLemmas
pub mod LawLemmas
