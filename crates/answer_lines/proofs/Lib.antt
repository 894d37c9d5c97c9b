pub mod SeenLemmas
pub mod SummaryLemmas
