-- Values at the pixels of a box, listed in row order: words of helpers, which no clause of another module cites.
use Rattle.std.specs.Prelude.{◌≡◌, ℕ, ◌+◌, ◌/◌, ◌%◌, ◌<◌, ℤ, pos, ◌-ℤ◌, Bool, List, length, slice_index, slice_index_or}
use Rattle.raster_model.specs.Phase.{wrapped_by}
use Rattle.raster_model.specs.Sums.{Field, right_edge, down_edge}
use Rattle.raster_model.specs.Raster.{Raster, gradient}

-- the list has the first n values in row order of a box that begins at (x0, y0) and has so many columns
abbrev pub AreInRows : Field ℤ → ℕ → ℕ → ℕ → ℕ → List ℤ → Type 0
AreInRows f x0 y0 columns n zs = (length zs ≡ n) × ((k : ℕ) → k < n → slice_index_or zs k (pos 0) ≡ f (x0 + k % columns) (y0 + k / columns))

-- the wrapped differences of the edges that start at a pixel, less the slope
abbrev pub of_right_edges : Raster → Field ℤ
of_right_edges raster x y = gradient raster (right_edge x y) -ℤ raster.slope Bool.false

abbrev pub of_down_edges : Raster → Field ℤ
of_down_edges raster x y = gradient raster (down_edge x y) -ℤ raster.slope Bool.true

-- a list has from place s on the wrapped differences, less the slope, of the first n pairs of phases of two lists, and before that what it had
pub record AreDifferences (slope : ℤ) (from to : List ℕ) (s n : ℕ) (old new : List ℤ) : Type 0 where
  pub count : length new ≡ length old
  pub before : (k : ℕ) → k < s → slice_index_or new k (pos 0) ≡ slice_index_or old k (pos 0)
  pub values : (k : ℕ) → k < n → slice_index_or new (s + k) (pos 0) ≡ wrapped_by slope (slice_index from k) (slice_index to k) -ℤ slope
