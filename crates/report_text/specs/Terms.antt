-- The terms of a report, and its version, which says whether its text tells them.
use Rattle.std.specs.Prelude.{◌≡◌, ◌⊎◌, ◌&&◌, ◌==◌, ℕ, pos, Bool, if◌then◌else◌}
use Rattle.std.specs.Ordering.{int_eq}
use Rattle.raster_model.specs.Limits.{IsSlope, IsSteepness}
use Rattle.text_parts.specs.Terms.{TermsOf}

-- no ramp, and each cycle of a departure costs the same
abbrev pub plain_terms : TermsOf
plain_terms = record { ramp_x = pos 0; ramp_y = pos 0; steep = 1 }

-- there are two versions of a report
abbrev pub IsVersion : ℕ → Type 0
IsVersion version = (version ≡ 1) ⊎ (version ≡ 2)

-- the terms may be those of a report of this version: their numbers are in range, and version 1 has the plain ones
pub record AreTermsIn (version : ℕ) (terms : TermsOf) : Type 0 where
  pub across : IsSlope terms.ramp_x
  pub along : IsSlope terms.ramp_y
  pub steepness : IsSteepness terms.steep
  pub plain : version ≡ 1 → terms ≡ plain_terms

-- whether terms are the plain ones, and the version in which a report on these terms is written
abbrev pub are_plain : TermsOf → Bool
are_plain terms = int_eq terms.ramp_x (pos 0) && int_eq terms.ramp_y (pos 0) && terms.steep == 1

abbrev pub version_on : TermsOf → ℕ
version_on terms = if are_plain terms then 1 else 2
