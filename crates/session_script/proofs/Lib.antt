pub mod WordAgain
pub mod WithinLemmas
pub mod ParseLemmas
pub mod SectionsAgain
pub mod PlanesAgain
pub mod ScriptAgain
pub mod SessionAgain
pub mod AskSession
pub mod CallLemmas
pub mod WrittenSession
mod SizeLemmas
mod WideLemmas
