pub mod TakenLemmas
pub mod ValueLemmas
pub mod StatedLemmas
pub mod FormLemmas
pub mod PlainLemmas
pub mod PlainReads
pub mod RequestLemmas
pub mod PlainRequests
