-- What is least of all over a raster as one tile is so over the raster, and the other way round: for callers.
use Rattle.std.proofs.Common.{refl}
use Rattle.std.specs.Prelude.{◌≡◌, Bool, ℤ}
use Rattle.raster_model.specs.Raster.{Raster}
use Rattle.raster_model.specs.Sums.{Field}
use Rattle.raster_model.specs.Whole.{IsLeastOfAll, whole_cost, whole_of}

module _ (r : Raster) (mask : Field Bool) (S : Field ℤ) where
  pub same_cost : whole_cost (whole_of r) mask S ≡ whole_cost r mask S
  unfolding whole_cost
  same_cost = refl

  pub least_over : IsLeastOfAll (whole_of r) mask S → IsLeastOfAll r mask S
  unfolding whole_cost
  least_over l = record { congruent = l.congruent; least = l.least }

  pub least_as_one : IsLeastOfAll r mask S → IsLeastOfAll (whole_of r) mask S
  unfolding whole_cost
  least_as_one l = record { congruent = l.congruent; least = l.least }
