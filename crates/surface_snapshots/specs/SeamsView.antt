-- Offsets of a revision's regions, with the flows that certify them, as contracts of surfaces see them.
use Rattle.std.specs.Prelude.{ℕ, ℤ, List}
use Rattle.certificates.specs.declared.results.SeamResult.{SeamResult}

pub record SeamsView : Type 0 where
  pub revision : ℕ
  pub offsets : List ℤ
  pub flows : List ℤ

abbrev pub seams_of : SeamResult → SeamsView
seams_of r = record { revision = r.revision; offsets = r.offsets.items; flows = r.flows.items }
