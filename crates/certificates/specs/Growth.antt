-- How the numbers of a list grow, which are 0, and which are in range. These are words of helpers, which no clause of a public function cites.
use Rattle.raster_model.specs.declared.limits.TheConstants.{MAX_CYCLE_COST, MAX_TILE_CYCLES}
use Rattle.std.specs.Prelude.{◌≡◌, ◌≢◌, ℕ, ◌*◌, ◌<◌, ◌≤◌, ℤ, pos, ◌+ℤ◌, List, length, slice_index_or, unsigned_abs}

-- each number has grown by f, and no number is greater than n times what a flow may be
pub record HasGrown (old new : List ℤ) (f : ℕ → ℤ) : Type 0 where
  pub same_length : length new ≡ length old
  pub grown : (v : ℕ) → v < length old → slice_index_or new v (pos 0) ≡ slice_index_or old v (pos 0) +ℤ f v

abbrev pub AreWithinWeights : ℕ → List ℤ → Type 0
AreWithinWeights n xs = (v : ℕ) → unsigned_abs (slice_index_or xs v (pos 0)) ≤ MAX_CYCLE_COST * n

-- all numbers are 0; v is the first place at which one is not
abbrev pub AreZeros : List ℤ → Type 0
AreZeros xs = (v : ℕ) → v < length xs → slice_index_or xs v (pos 0) ≡ pos 0

pub record IsFirstOther (xs : List ℤ) (v : ℕ) : Type 0 where
  pub exists : v < length xs
  pub other : slice_index_or xs v (pos 0) ≢ pos 0
  pub zeros : (u : ℕ) → u < v → slice_index_or xs u (pos 0) ≡ pos 0

-- all numbers are from -8388608 to 8388608
abbrev pub AreAllInRange : List ℤ → Type 0
AreAllInRange xs = (v : ℕ) → v < length xs → unsigned_abs (slice_index_or xs v (pos 0)) ≤ MAX_TILE_CYCLES
