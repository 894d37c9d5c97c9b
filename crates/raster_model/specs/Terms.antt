-- On which terms a phase is unwrapped.
use Rattle.std.specs.Prelude.{◌≡◌, ℤ, pos, Bool, if◌then◌else◌}
use Rattle.raster_model.specs.declared.terms.Terms.{Terms}

-- the rise that is expected along a down edge, or along a right one
abbrev pub slope_of : Terms → Bool → ℤ
slope_of terms down = if down then terms.ramp_y else terms.ramp_x

-- no ramp is expected, and each cycle of a departure costs the same
pub record ArePlainTerms (terms : Terms) : Type 0 where
  pub across : terms.ramp_x ≡ pos 0
  pub along : terms.ramp_y ≡ pos 0
  pub steepness : terms.steep ≡ 1
