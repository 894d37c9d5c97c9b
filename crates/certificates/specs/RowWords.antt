-- Words of what the rows of a tile add up to, row by row and strip by strip. No clause of a public function cites them.
use Rattle.std.specs.Prelude.{◌≡◌, ℕ, ◌+◌, ◌*◌, ◌^◌, ◌<◌, ◌≤◌, ℤ, pos, ◌+ℤ◌, ◌-ℤ◌, List, IfSome, length, min, slice_index_or, unsigned_abs}
use Rattle.raster_model.specs.declared.edge.Edge.{Edge}
use Rattle.raster_model.specs.Sums.{Field, sum_grid}
use Rattle.certificates.specs.declared.beside.Strip.{Strip}
use Rattle.certificates.specs.declared.row_sums.Sums.{Sums}
use Rattle.certificates.specs.declared.tile.Tile.{Tile}
use Rattle.certificates.specs.TileWords.{FitAt, IsInner, cost_at, over_at, product_at}

-- what the rows before row y add to the bound of the faces, and to the cost of a surface
abbrev pub bound_before : Tile → List ℤ → ℕ → ℤ
bound_before tile faces y = sum_grid tile.sheet.phase.now.width y (product_at tile faces) -ℤ sum_grid tile.sheet.phase.now.width y (over_at tile faces)

abbrev pub cost_before : Tile → Field ℤ → ℕ → ℤ
cost_before tile cycles y = sum_grid tile.sheet.phase.now.width y (cost_at tile cycles)

-- the faces fit at each inner edge that starts in the rows from a to before b, and the sums are what these rows add
pub record AreSums (tile : Tile) (cycles : Field ℤ) (faces : List ℤ) (a b : ℕ) (sums : Sums) : Type 0 where
  pub fits : (edge : Edge) → IsInner tile edge → a ≤ edge.y → edge.y < b → FitAt tile faces edge
  pub adds_bound : bound_before tile faces a +ℤ sums.bound ≡ bound_before tile faces b
  pub adds_cost : cost_before tile cycles a +ℤ pos sums.cost ≡ cost_before tile cycles b
  pub few_bound : unsigned_abs sums.bound + 2 ^ 80 * a ≤ 2 ^ 80 * b
  pub few_cost : sums.cost + 2 ^ 90 * a ≤ 2 ^ 90 * b

-- the faces fit at the inner edges that start in row y before column x
abbrev pub FitUpTo : Tile → List ℤ → ℕ → ℕ → Type 0
FitUpTo tile faces x y = (edge : Edge) → IsInner tile edge → edge.y ≡ y → edge.x < x → FitAt tile faces edge

-- the window of the tile has all rows of the raster
abbrev pub IsWhole : Tile → Type 0
IsWhole tile = (tile.window.y0 ≡ 0) × (tile.window.y1 + 1 ≡ tile.sheet.phase.now.height)

-- what was found for the strip at a place, where each has so many rows as far as the raster goes, are its sums; and so for all strips
abbrev pub IsFound : Tile → Field ℤ → List ℤ → ℕ → ℕ → Strip → Type 0
IsFound tile cycles faces rows place strip = IfSome strip.sums (AreSums tile cycles faces (place * rows) (min ((place + 1) * rows) tile.sheet.phase.now.height))

abbrev pub AreFound : Tile → Field ℤ → List ℤ → ℕ → List Strip → Type 0
AreFound tile cycles faces rows strips = (place : ℕ) (d : Strip) → place < length strips → IsFound tile cycles faces rows place (slice_index_or strips place d)
