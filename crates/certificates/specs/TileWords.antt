-- Words of the helpers over a tile. No clause of a public function cites them.
use Rattle.std.specs.Prelude.{◌≡◌, ℕ, ◌+◌, ◌<◌, ◌≤◌, ℤ, pos, Bool, IsTrue, List, length}
use Rattle.raster_model.specs.declared.edge.Edge.{Edge}
use Rattle.raster_model.specs.Sums.{Field, right_edge, down_edge}
use Rattle.raster_model.specs.Raster.{Raster, departure, edge_cost, has_open_ends, lifted, cost_from, tile_cost}
use Rattle.raster_model.specs.Certificates.{faces_of_tile, face_bound, face_difference, face_over_from, face_over_total, face_product, face_total, IsTileEdge, FacesFit}
use Rattle.raster_model.specs.Cells.{IsCertifiedTile, cell_count, face_at}
use Rattle.raster_model.specs.Heights.{KnowsOpenOf}
use Rattle.raster_model.specs.Masks.{open_at}
use Rattle.raster_model.specs.Tiles.{IsWithin}
use Rattle.certificates.specs.declared.tile.Tile.{Tile}
use Rattle.certificates.specs.declared.verdicts.TileVerdict.{TileVerdict}
use Rattle.certificates.specs.Cuts.{raster_cut}
use Rattle.certificates.specs.Verdicts.{IsFacesVerdict}

abbrev pub held_raster : Tile → Raster
held_raster tile = raster_cut tile.sheet tile.cut

abbrev pub held_mask : Tile → Field Bool
held_mask tile = open_at tile.mask.now

abbrev pub HasFaces : Tile → List ℤ → Type 0
HasFaces tile faces = length faces ≡ cell_count (held_raster tile) tile.number

-- the faces of the tile's cells, and 0 elsewhere; their differences, their products with the residues, and the sum of these
abbrev pub faces_at : Tile → List ℤ → Field ℤ
faces_at tile faces = faces_of_tile (held_raster tile) tile.number (face_at (held_raster tile) tile.number faces)

abbrev pub difference_at : Tile → List ℤ → Edge → ℤ
difference_at tile faces = face_difference (faces_at tile faces)

abbrev pub product_at : Tile → List ℤ → Field ℤ
product_at tile faces = face_product (held_raster tile) tile.number (face_at (held_raster tile) tile.number faces)

abbrev pub total_at : Tile → List ℤ → ℤ
total_at tile faces = face_total (held_raster tile) tile.number (face_at (held_raster tile) tile.number faces)

-- by how much the faces at the inner edges differ by more than the weights: for the edges that start at a pixel, and in all; and the bound
abbrev pub over_at : Tile → List ℤ → Field ℤ
over_at tile faces = face_over_from (held_raster tile) (held_mask tile) tile.number (face_at (held_raster tile) tile.number faces)

abbrev pub over_in : Tile → List ℤ → ℤ
over_in tile faces = face_over_total (held_raster tile) (held_mask tile) tile.number (face_at (held_raster tile) tile.number faces)

abbrev pub bound_in : Tile → List ℤ → ℤ
bound_in tile faces = face_bound (held_raster tile) (held_mask tile) tile.number (face_at (held_raster tile) tile.number faces)

-- an inner edge of the tile; the faces fit at an edge; at all inner edges
abbrev pub IsInner : Tile → Edge → Type 0
IsInner tile = IsTileEdge (held_raster tile) tile.number

abbrev pub FitAt : Tile → List ℤ → Edge → Type 0
FitAt tile faces = FacesFit (held_raster tile) (held_mask tile) tile.number (face_at (held_raster tile) tile.number faces)

abbrev pub AllFit : Tile → List ℤ → Type 0
AllFit tile faces = (edge : Edge) → IsInner tile edge → FitAt tile faces edge

-- the faces fit at each right edge that starts in row y, from the tile's first column to before column n; and at each such down edge, from the tile's second column
abbrev pub FitRight : Tile → List ℤ → ℕ → ℕ → Type 0
FitRight tile faces y n = (x : ℕ) → tile.window.x0 ≤ x → x < n → FitAt tile faces (right_edge x y)

abbrev pub FitDown : Tile → List ℤ → ℕ → ℕ → Type 0
FitDown tile faces y n = (x : ℕ) → tile.window.x0 + 1 ≤ x → x < n → FitAt tile faces (down_edge x y)

-- they fit at each inner edge that starts in row y
abbrev pub FitIn : Tile → List ℤ → ℕ → Type 0
FitIn tile faces y = (edge : Edge) → IsInner tile edge → edge.y ≡ y → FitAt tile faces edge

-- the surface of some cycles, what it costs at an edge, at the edges that start at a pixel, and in the tile
abbrev pub surface_of_cycles : Tile → Field ℤ → Field ℤ
surface_of_cycles tile cycles = lifted (held_raster tile) cycles

abbrev pub cost_on : Tile → Field ℤ → Edge → ℤ
cost_on tile cycles = edge_cost (held_raster tile) (held_mask tile) (surface_of_cycles tile cycles)

abbrev pub cost_at : Tile → Field ℤ → Field ℤ
cost_at tile cycles = cost_from (held_raster tile) (held_mask tile) tile.number (surface_of_cycles tile cycles)

abbrev pub cost_in : Tile → Field ℤ → ℤ
cost_in tile cycles = tile_cost (held_raster tile) (held_mask tile) tile.number (surface_of_cycles tile cycles)

-- the faces certify that surface in the tile; the verdict on them
abbrev pub AreCertified : Tile → Field ℤ → List ℤ → Type 0
AreCertified tile cycles faces = IsCertifiedTile (held_raster tile) (held_mask tile) tile.number (surface_of_cycles tile cycles) faces

abbrev pub IsVerdictOn : Tile → Field ℤ → List ℤ → TileVerdict → Type 0
IsVerdictOn tile cycles faces verdict = IsFacesVerdict (held_raster tile) (held_mask tile) tile.number (surface_of_cycles tile cycles) faces verdict

abbrev pub KnowsTile : Tile → Field Bool → Type 0
KnowsTile tile = KnowsOpenOf (held_raster tile) (held_mask tile) tile.number

-- the tile's pixels in row y and in the next row are open
abbrev pub AreRowsOpen : Tile → ℕ → Type 0
AreRowsOpen tile y = (a b : ℕ) → IsWithin tile.window a b → y ≤ b → b ≤ y + 1 → IsTrue (held_mask tile a b)

-- the pixels of column x in row y and in the next row are open; so are those of all columns from x to n; the ends of the tile's edges that start at a pixel are open
abbrev pub IsColumnOpen : Tile → ℕ → ℕ → Type 0
IsColumnOpen tile y x = IsTrue (held_mask tile x y) × IsTrue (held_mask tile x (y + 1))

abbrev pub AreColumnsOpen : Tile → ℕ → ℕ → ℕ → Type 0
AreColumnsOpen tile y x n = (a : ℕ) → x ≤ a → a ≤ n → IsColumnOpen tile y a

abbrev pub AreEndsOpen : Tile → ℕ → ℕ → Type 0
AreEndsOpen tile x y = (x < tile.window.x1 → IsTrue (has_open_ends (held_mask tile) (right_edge x y))) × (y < tile.window.y1 → IsTrue (has_open_ends (held_mask tile) (down_edge x y)))

-- the surface of some cycles departs at no right edge that starts in row y, from the tile's first column to before column n; nor at such a down edge
abbrev pub TileFollowsRight : Tile → Field ℤ → ℕ → ℕ → Type 0
TileFollowsRight tile cycles y n = (x : ℕ) → tile.window.x0 ≤ x → x < n → departure (held_raster tile) (surface_of_cycles tile cycles) (right_edge x y) ≡ pos 0

abbrev pub TileFollowsDown : Tile → Field ℤ → ℕ → ℕ → Type 0
TileFollowsDown tile cycles y n = (x : ℕ) → tile.window.x0 ≤ x → x < n → departure (held_raster tile) (surface_of_cycles tile cycles) (down_edge x y) ≡ pos 0
