-- The surface that costs least of all, over the whole raster, and what certifies it.
use Rattle.std.specs.Prelude.{◌≡◌, ℤ, ◌≤ℤ◌, Bool, List}
use Rattle.raster_model.specs.Sums.{Field, sum_edges}
use Rattle.raster_model.specs.Raster.{Raster, IsCongruent, edge_cost}
use Rattle.raster_model.specs.Cells.{IsCertifiedTile}
use Rattle.raster_model.specs.Best.{IsBest, tiles_cost, total_cost}
use Rattle.raster_model.specs.Tilings.{HasTiles, tiled_by}

-- the raster as one tile: each edge is an inner edge, and there is no seam
abbrev pub whole_of : Raster → Raster
whole_of raster = tiled_by raster (λ x y. 0) 1

-- what a surface costs over all edges with open ends
unfoldable pub whole_cost : Raster → Field Bool → Field ℤ → ℤ
whole_cost raster mask S = sum_edges raster.width raster.height (edge_cost raster mask S)

-- a congruent surface than which no congruent surface costs less
pub record IsLeastOfAll (raster : Raster) (mask : Field Bool) (S : Field ℤ) : Type 0 where
  pub congruent : IsCongruent raster mask S
  pub least : (S' : Field ℤ) → IsCongruent raster mask S' → whole_cost raster mask S ≤ℤ whole_cost raster mask S'

-- a congruent surface with a list of faces, one for each cell of the raster in row order, that certifies it
pub record IsCertifiedWhole (raster : Raster) (mask : Field Bool) (S : Field ℤ) (faces : List ℤ) : Type 0 where
  pub congruent : IsCongruent raster mask S
  pub certified : IsCertifiedTile (whole_of raster) mask 0 S faces

-- a certified surface is least of all
abbrev pub CertifiedWholeIsLeast : Type 0
CertifiedWholeIsLeast = (raster : Raster) (mask : Field Bool) (S : Field ℤ) (faces : List ℤ) → IsCertifiedWhole raster mask S faces → IsLeastOfAll raster mask S

-- what a surface costs whole is what its tiles and its seams cost, whatever the tiles
abbrev pub WholeIsTilesAndSeams : Type 0
WholeIsTilesAndSeams = (raster : Raster) (mask : Field Bool) (S : Field ℤ) → HasTiles raster → whole_cost raster mask S ≡ total_cost raster mask S

-- the least of all costs no less than the tiles of the best surface do, and no more than its tiles and its seams
pub record IsBounded (raster : Raster) (mask : Field Bool) (S least : Field ℤ) : Type 0 where
  pub from : tiles_cost raster mask S ≤ℤ whole_cost raster mask least
  pub to : whole_cost raster mask least ≤ℤ total_cost raster mask S

abbrev pub BestBoundsTheLeastOfAll : Type 0
BestBoundsTheLeastOfAll = (raster : Raster) (mask : Field Bool) (S least : Field ℤ) → HasTiles raster → IsBest raster mask S → IsLeastOfAll raster mask least → IsBounded raster mask S least
