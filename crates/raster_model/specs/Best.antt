-- What is least, in each tile among all congruent surfaces and at the seams under all offsets of the regions, and what certifies it.
use Rattle.std.specs.Prelude.{◌≡◌, ℕ, ◌<◌, ℤ, pos, ◌+ℤ◌, ◌≤ℤ◌, Bool, IsTrue, List}
use Rattle.raster_model.specs.declared.edge.Edge.{Edge}
use Rattle.raster_model.specs.Sums.{Field, is_edge}
use Rattle.raster_model.specs.Raster.{Raster, IsCongruent, departure, has_open_ends, seam_cost, tile_cost}
use Rattle.raster_model.specs.Certificates.{IsLeastInTile, IsTileCertificate}
use Rattle.raster_model.specs.Seams.{IsLeastAtSeams, IsSeamCertificate}
use Rattle.raster_model.specs.Cells.{IsCertifiedTile}
use Rattle.raster_model.specs.Flows.{AreCertifiedSeams}
use Rattle.sums_and_lists.specs.Sums.{sum_below}

-- a congruent surface that is least in each tile and at the seams
pub record IsBest (raster : Raster) (mask : Field Bool) (S : Field ℤ) : Type 0 where
  pub congruent : IsCongruent raster mask S
  pub in_tiles : (t : ℕ) → t < raster.tile_count → IsLeastInTile raster mask t S
  pub at_seams : IsLeastAtSeams raster mask S

-- a congruent surface with a list of faces for each tile and one of flows that certify it
pub record IsCertified (raster : Raster) (mask : Field Bool) (S : Field ℤ) (faces : ℕ → List ℤ) (flows : List ℤ) : Type 0 where
  pub congruent : IsCongruent raster mask S
  pub tiles : (t : ℕ) → t < raster.tile_count → IsCertifiedTile raster mask t S (faces t)
  pub seams : AreCertifiedSeams raster mask S flows

-- certified faces are least in a tile, certified flows at the seams, and a certified surface is the best
abbrev pub CertifiedTilesAreLeast : Type 0
CertifiedTilesAreLeast = (raster : Raster) (mask : Field Bool) (tile : ℕ) (S : Field ℤ) (faces : Field ℤ) → IsTileCertificate raster mask tile S faces → IsLeastInTile raster mask tile S

abbrev pub CertifiedSeamsAreLeast : Type 0
CertifiedSeamsAreLeast = (raster : Raster) (mask : Field Bool) (S : Field ℤ) → IsCongruent raster mask S → (flow : Edge → ℤ) → IsSeamCertificate raster mask S flow → IsLeastAtSeams raster mask S

abbrev pub CertifiedIsBest : Type 0
CertifiedIsBest = (raster : Raster) (mask : Field Bool) (S : Field ℤ) (faces : ℕ → List ℤ) (flows : List ℤ) → IsCertified raster mask S faces flows → IsBest raster mask S

-- every departure is 0
abbrev pub HasNoDepartures : Raster → Field Bool → Field ℤ → Type 0
HasNoDepartures raster mask S = (edge : Edge) → IsTrue (is_edge raster.width raster.height edge) → IsTrue (has_open_ends mask edge) → departure raster S edge ≡ pos 0

-- a congruent surface whose departures are all 0 is the best
abbrev pub NoDeparturesAreBest : Type 0
NoDeparturesAreBest = (raster : Raster) (mask : Field Bool) (S : Field ℤ) → IsCongruent raster mask S → HasNoDepartures raster mask S → IsBest raster mask S

-- what the tiles cost together, and what a surface costs whole: its tiles and its seams
abbrev pub tiles_cost : Raster → Field Bool → Field ℤ → ℤ
tiles_cost raster mask S = sum_below raster.tile_count (λ t. tile_cost raster mask t S)

abbrev pub total_cost : Raster → Field Bool → Field ℤ → ℤ
total_cost raster mask S = tiles_cost raster mask S +ℤ seam_cost raster mask S

-- the best surface's tiles cost no more than any congruent surface costs whole
abbrev pub NoneCostsLessThanTheTiles : Type 0
NoneCostsLessThanTheTiles = (raster : Raster) (mask : Field Bool) (S other : Field ℤ) → IsBest raster mask S → IsCongruent raster mask other → tiles_cost raster mask S ≤ℤ total_cost raster mask other

-- so what it costs whole is within its seam cost of what any congruent surface costs
abbrev pub BestIsWithinItsSeamCost : Type 0
BestIsWithinItsSeamCost = (raster : Raster) (mask : Field Bool) (S other : Field ℤ) → IsBest raster mask S → IsCongruent raster mask other → total_cost raster mask S ≤ℤ (total_cost raster mask other +ℤ seam_cost raster mask S)
