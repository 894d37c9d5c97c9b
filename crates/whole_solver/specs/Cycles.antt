-- Whole cycles above the phase at the pixels of a raster, as a list in row order.
use Rattle.raster_model.specs.declared.limits.TheConstants.{MAX_WHOLE_CYCLES}
use Rattle.std.specs.Prelude.{ℕ, ◌+◌, ◌*◌, ◌≤◌, ℤ, pos, Bool, ◌&&◌, nat_lt, List, length, slice_index_or, unsigned_abs}
use Rattle.raster_model.specs.Sums.{Field}

-- the cycles that a list in row order has at a pixel of a raster so wide, and whether it has a place for the pixel
abbrev pub whole_cycles : ℕ → List ℤ → Field ℤ
whole_cycles width cycles x y = slice_index_or cycles (y * width + x) (pos 0)

abbrev pub has_cycles : ℕ → List ℤ → Field Bool
has_cycles width cycles x y = nat_lt x width && nat_lt (y * width + x) (length cycles)

-- no cycles are above 2^46 on either side of 0
abbrev pub AreSmallCycles : List ℤ → Type 0
AreSmallCycles cycles = (k : ℕ) → unsigned_abs (slice_index_or cycles k (pos 0)) ≤ MAX_WHOLE_CYCLES
