-- Sums over rectangles from the corner. No public clause cites this file.
use Rattle.std.specs.Prelude.{◌≡◌, ℕ, ◌+◌, ◌/◌, ◌%◌, ◌<◌, ◌≤◌, Bool, List, slice_index}
use Rattle.raster_model.specs.Sums.{Field}
use Rattle.auto_masks.specs.Screened.{count_pixels}

-- the corners of pixels have numbers in row order, w + 1 in each row; the first k have the number of pixels above them and to their left that pass a test, and the others have 0
pub record AreSummed (w : ℕ) (test : Field Bool) (k : ℕ) (sums : List ℕ) : Type 0 where
  pub summed : (i : ℕ) → i < k → slice_index sums i ≡ count_pixels (i % (w + 1)) (i / (w + 1)) test
  pub rest : (i : ℕ) → k ≤ i → slice_index sums i ≡ 0
