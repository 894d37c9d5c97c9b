-- The range of the offsets that are added on regions.
use Rattle.raster_model.specs.declared.limits.TheConstants.{MAX_OFFSET}
use Rattle.std.specs.Prelude.{ℕ, ◌<◌, ◌≤◌, ◌^◌, ℤ, pos, List, length, slice_index_or, unsigned_abs}

-- an offset is from -2 ^ 46 to 2 ^ 46; all are
abbrev pub IsNear : ℤ → Type 0
IsNear z = unsigned_abs z ≤ MAX_OFFSET

abbrev pub AreNear : List ℤ → Type 0
AreNear offsets = (v : ℕ) → v < length offsets → IsNear (slice_index_or offsets v (pos 0))

-- offset v is the first that is out of range
pub record IsFirstFar (offsets : List ℤ) (v : ℕ) : Type 0 where
  pub exists : v < length offsets
  pub far : IsNear (slice_index_or offsets v (pos 0)) → ⊥
  pub first : (u : ℕ) → u < v → IsNear (slice_index_or offsets u (pos 0))
