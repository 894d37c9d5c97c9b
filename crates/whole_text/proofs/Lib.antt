pub mod RowLemmas
pub mod Forms
pub mod ReadLemmas
pub mod SameLemmas
pub mod ValueLemmas
pub mod TaskLemmas
pub mod DecideLemmas
pub mod LengthLemmas
