-- What a check of the whole raster says, from the check of its one tile.
use Rattle.std.proofs.Common.{◌≡◌, ◌∙◌, ℕ, ℤ, List, refl}
use Rattle.std.proofs.lemmas.Bool.{false≢true}
use Rattle.std.specs.Prelude.{◌≢◌, ◌↔◌, pos, Bool, Result, Ok, Err, IfErr, IfOk, IsOk}
use Rattle.raster_model.specs.Cells.{IsCertifiedTile}
use Rattle.raster_model.specs.Raster.{Raster, lifted, tile_cost}
use Rattle.raster_model.specs.Sums.{Field}
use Rattle.raster_model.proofs.Exact.{lifted_is_congruent}
use Rattle.certificates.specs.declared.verdicts.TileVerdict.{TileVerdict}
use Rattle.certificates.specs.declared.verdicts.TileVerdict.TheVariants.{Good}
use Rattle.certificates.specs.Verdicts.{IsFacesVerdict}
use Rattle.certificates.proofs.VerdictLemmas.{faces_good}
use Rattle.raster_model.specs.Whole.{IsCertifiedWhole, IsLeastOfAll, whole_cost, whole_of}
use Rattle.raster_model.proofs.Whole.{certified_whole_is_least, whole_tile_cost}

module _ (r : Raster) (mask : Field Bool) (cycles : Field ℤ) (faces : List ℤ) where
  whole_certified : IsCertifiedTile (whole_of r) mask 0 (lifted r cycles) faces → IsCertifiedWhole r mask (lifted r cycles) faces
  whole_certified c = record { congruent = lifted_is_congruent r mask cycles; certified = c }

  -- what the surface costs, and that none costs less
  pub whole_checked : (cost : ℕ) → IsCertifiedTile (whole_of r) mask 0 (lifted r cycles) faces × (pos cost ≡ tile_cost (whole_of r) mask 0 (lifted r cycles)) → IsCertifiedWhole r mask (lifted r cycles) faces × (pos cost ≡ whole_cost r mask (lifted r cycles))
  whole_checked cost c = (whole_certified c.0, c.1 ∙ whole_tile_cost r mask (lifted r cycles))

  pub whole_least : (cost : ℕ) → IsCertifiedTile (whole_of r) mask 0 (lifted r cycles) faces × (pos cost ≡ tile_cost (whole_of r) mask 0 (lifted r cycles)) → IsLeastOfAll r mask (lifted r cycles)
  whole_least cost c = certified_whole_is_least r mask (lifted r cycles) faces (whole_certified c.0)

-- it is Ok exactly where the faces certify
pub checked_good : (r : Raster) (mask : Field Bool) (t : ℕ) (S : Field ℤ) (faces : List ℤ) (P : ℕ → Type 0) (result : Result ℕ TileVerdict) → IfOk result (λ cost. IsCertifiedTile r mask t S faces × P cost) → IfErr result (λ v. IsFacesVerdict r mask t S faces v × (v ≢ Good)) → (IsOk result) ↔ IsCertifiedTile r mask t S faces
checked_good r mask t S faces P (Ok cost) c k = (λ i. c.0, λ d. refl)
checked_good r mask t S faces P (Err v) c k = (λ i. absurd (false≢true i), λ d. absurd (k.1 ((faces_good r mask t S faces v k.0).1 d)))
