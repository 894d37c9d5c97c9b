-- Tests for the NODATA value. They serve callers too.
use Rattle.std.proofs.Common.{◌≡◌, ℤ, Bool, true, false, not, refl, sym, ap, ◌∙◌, to_z, of_z, w64}
use Rattle.std.specs.Prelude.{FitsSigned}
use Rattle.std.specs.Ordering.{int_eq}
use Rattle.std.proofs.lemmas.Bool.Decides.{Decides-int_eq}
use Rattle.std.proofs.lemmas.Int.{to_z-of_z}
use Rattle.grid_writer.specs.Values.{is_value, no_data}

false_from : (b : Bool) → (b ≡ true → ⊥) → b ≡ false
false_from true h = absurd (h refl)
false_from false h = refl

pub no_value : (z : ℤ) → z ≡ no_data → is_value z ≡ false
no_value z e = ap not ((Decides-int_eq z no_data).1 e)

pub a_value : (z : ℤ) → (z ≡ no_data → ⊥) → is_value z ≡ true
a_value z ne = ap not (false_from (int_eq z no_data) (λ e. ne ((Decides-int_eq z no_data).0 e)))

-- a number of 64 bits as code holds it: it is the NODATA value exactly if it has its bits
pub is_no_data : (z : ℤ) → FitsSigned w64 z → of_z w64 z ≡ 9223372036854775808 → z ≡ no_data
is_no_data z fits e = sym (to_z-of_z w64 z fits) ∙ ap (to_z w64) e

pub no_bits : (z : ℤ) → (of_z w64 z ≡ 9223372036854775808 → ⊥) → z ≡ no_data → ⊥
no_bits z ne e = ne (ap (of_z w64) e)
