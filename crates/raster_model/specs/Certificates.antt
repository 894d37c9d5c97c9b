-- What certifies a tile: faces that are dual feasible in Costantini's linear program, with equality.
use Rattle.std.specs.Prelude.{◌≡◌, ℕ, zero, suc, ◌+◌, ◌*◌, ◌≤◌, ℤ, pos, ◌-ℤ◌, ◌*ℤ◌, ◌≤ℤ◌, Bool, ◌&&◌, ◌==◌, IsTrue, if◌then◌else◌, nat_lt, unsigned_abs}
use Rattle.raster_model.specs.declared.edge.Edge.{Edge}
use Rattle.raster_model.specs.Sums.{Field, edges_from, is_edge, sum_edges, sum_grid}
use Rattle.raster_model.specs.Raster.{Raster, IsCongruent, residue, masked_weight, is_inner, over, tile_cost}
use Rattle.sums_and_lists.specs.Sums.{where_true}

-- what stands before a place, and 0 before the first
abbrev pub before : (ℕ → ℤ) → ℕ → ℤ
before f zero = pos 0
before f (suc i) = f i

-- the faces above and to the left of a cell, and 0 beyond the raster
abbrev pub above : Field ℤ → Field ℤ
above f x y = before (f x) y

abbrev pub left : Field ℤ → Field ℤ
left f x y = before (λ i. f i y) x

-- the face on one side of an edge less that on the other.
-- A right edge has the cell (x, y - 1) above it and the cell (x, y) below; a down edge has (x, y) right of it and (x - 1, y) left.
abbrev pub face_difference : Field ℤ → Edge → ℤ
face_difference f edge = if edge.down then f edge.x edge.y -ℤ left f edge.x edge.y else above f edge.x edge.y -ℤ f edge.x edge.y

-- a cell of the tile, by its upper left corner: all four corners are pixels of the tile
abbrev pub is_cell : Raster → ℕ → Field Bool
is_cell raster tile x y = nat_lt (x + 1) raster.width && nat_lt (y + 1) raster.height && (raster.tile x y == tile) && (raster.tile (x + 1) y == tile) && (raster.tile x (y + 1) == tile) && (raster.tile (x + 1) (y + 1) == tile)

-- the faces of a tile's cells, and 0 where there is no cell of the tile
abbrev pub faces_of_tile : Raster → ℕ → Field ℤ → Field ℤ
faces_of_tile raster tile f x y = where_true (is_cell raster tile x y) (f x y)

-- a cell's face times its residue, and the sum over the tile's cells
unfoldable pub face_product : Raster → ℕ → Field ℤ → Field ℤ
face_product raster tile f x y = faces_of_tile raster tile f x y *ℤ residue raster x y

unfoldable pub face_total : Raster → ℕ → Field ℤ → ℤ
face_total raster tile f = sum_grid raster.width raster.height (face_product raster tile f)

-- an inner edge of the tile
abbrev pub IsTileEdge : Raster → ℕ → Edge → Type 0
IsTileEdge raster tile edge = IsTrue (is_edge raster.width raster.height edge && is_inner raster tile edge)

-- the faces on the two sides of an edge differ by no more than the steepness times its weight
abbrev pub FacesFit : Raster → Field Bool → ℕ → Field ℤ → Edge → Type 0
FacesFit raster mask tile f edge = unsigned_abs (face_difference (faces_of_tile raster tile f) edge) ≤ raster.steep * masked_weight raster mask edge

-- by how much the faces on the two sides of an inner edge of the tile differ by more than its weight, for the edges that start at a pixel, and the sum over the inner edges
abbrev pub face_over : Raster → Field Bool → ℕ → Field ℤ → Edge → ℤ
face_over raster mask tile f edge = where_true (is_inner raster tile edge) (pos (over (masked_weight raster mask edge) (face_difference (faces_of_tile raster tile f) edge)))

unfoldable pub face_over_from : Raster → Field Bool → ℕ → Field ℤ → Field ℤ
face_over_from raster mask tile f = edges_from raster.width raster.height (face_over raster mask tile f)

unfoldable pub face_over_total : Raster → Field Bool → ℕ → Field ℤ → ℤ
face_over_total raster mask tile f = sum_edges raster.width raster.height (face_over raster mask tile f)

-- the sum of face times residue, less those amounts: no congruent surface costs less in the tile
abbrev pub face_bound : Raster → Field Bool → ℕ → Field ℤ → ℤ
face_bound raster mask tile f = face_total raster tile f -ℤ face_over_total raster mask tile f

-- faces certify a surface in a tile: they fit at each inner edge, masked ends included, and their bound is the cost
pub record IsTileCertificate (raster : Raster) (mask : Field Bool) (tile : ℕ) (S : Field ℤ) (f : Field ℤ) : Type 0 where
  pub fits : (e : Edge) → IsTileEdge raster tile e → FacesFit raster mask tile f e
  pub equal : face_bound raster mask tile f ≡ tile_cost raster mask tile S

-- no congruent surface costs less in the tile
abbrev pub IsLeastInTile : Raster → Field Bool → ℕ → Field ℤ → Type 0
IsLeastInTile raster mask tile S = (S' : Field ℤ) → IsCongruent raster mask S' → tile_cost raster mask tile S ≤ℤ tile_cost raster mask tile S'
