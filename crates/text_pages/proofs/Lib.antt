mod DealLemmas
pub mod TextsFrom
