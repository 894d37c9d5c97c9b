-- A signed number that is read from a list, as code has it.
use Rattle.std.proofs.Common.{◌≡◌, ℕ, ◌<◌, ◌∙◌, FitsSigned, to_z, of_z, w32, w64, List, length, get_or}
use Rattle.std.specs.Prelude.{ℤ, pos}
use Rattle.std.proofs.lemmas.Int.{to_z-of_z}
use Rattle.std.proofs.lemmas.List.{get_or_default}

pub read_32 : (zs : List ℤ) (n : ℕ) (z : ℤ) → FitsSigned w32 z → n < length zs → z ≡ get_or zs n z → to_z w32 (of_z w32 z) ≡ get_or zs n (pos 0)
read_32 zs n z fits below e = to_z-of_z w32 z fits ∙ e ∙ get_or_default zs n z (pos 0) below

pub read_64 : (zs : List ℤ) (n : ℕ) (z : ℤ) → FitsSigned w64 z → n < length zs → z ≡ get_or zs n z → to_z w64 (of_z w64 z) ≡ get_or zs n (pos 0)
read_64 zs n z fits below e = to_z-of_z w64 z fits ∙ e ∙ get_or_default zs n z (pos 0) below
