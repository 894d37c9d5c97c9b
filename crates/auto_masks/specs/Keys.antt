-- Keys that tell which pixels pass. No public clause cites this file.
use Rattle.std.specs.Prelude.{◌≡◌, ℕ, ◌/◌, ◌%◌, ◌<◌, ℤ, pos, Bool, List, slice_index_or}
use Rattle.raster_model.specs.declared.plane.Plane.{Plane}
use Rattle.raster_model.specs.Sums.{Field}
use Rattle.auto_masks.specs.declared.terms.ScreenTerms.{ScreenTerms}
use Rattle.auto_masks.specs.Screened.{passing_keys}

-- the first k pixels in row order have their keys
pub record AreKeyed (terms : ScreenTerms) (weights : Plane) (clear : Field Bool) (k : ℕ) (keys : List ℤ) : Type 0 where
  pub keyed : (i : ℕ) → i < k → slice_index_or keys i (pos 0) ≡ passing_keys terms weights clear (i % weights.width) (i / weights.width)
