-- The edges and cells of a window, and numbers that two lists hold for its edges. Places count in the raster.
use Rattle.std.specs.Prelude.{◌≡◌, ℕ, ◌+◌, ◌-◌, ◌*◌, ◌≤◌, ◌<◌, ℤ, pos, ◌+ℤ◌, ◌-ℤ◌, List, length, slice_index_or, if◌then◌else◌}
use Rattle.raster_model.specs.declared.edge.Edge.{Edge}
use Rattle.raster_model.specs.declared.tiling.Window.{Window}
use Rattle.raster_model.specs.Sums.{Field, end_x, end_y, right_edge, down_edge}
use Rattle.raster_model.specs.Tiles.{IsWithin, height_of, place_in, width_of}

-- an edge of the window: both its ends are pixels of the window
pub record IsEdgeOf (window : Window) (edge : Edge) : Type 0 where
  pub start : IsWithin window edge.x edge.y
  pub end : IsWithin window (end_x edge) (end_y edge)

-- a cell of the window, by its upper left corner: its four corners are pixels of the window
abbrev pub IsCellOf : Window → ℕ → ℕ → Type 0
IsCellOf window x y = (window.x0 ≤ x) × (x < window.x1) × (window.y0 ≤ y) × (y < window.y1)

-- one list has a number for each right edge of the window, the other for each down edge
abbrev pub HaveShapeOf : Window → List ℤ → List ℤ → Type 0
HaveShapeOf window right down = (length right ≡ (width_of window - 1) * height_of window) × (length down ≡ width_of window * (height_of window - 1))

-- the number that these lists hold for an edge; they are in row order of first pixels
abbrev pub edge_value : Window → List ℤ → List ℤ → Edge → ℤ
edge_value window right down edge = if edge.down then slice_index_or down (place_in window edge.x edge.y) (pos 0) else slice_index_or right ((edge.y - window.y0) * (width_of window - 1) + (edge.x - window.x0)) (pos 0)

-- the sum of the numbers of a cell's edges round it: along its top and its right side, and back along its bottom and its left side
abbrev pub round : (Edge → ℤ) → Field ℤ
round number x y = number (right_edge x y) +ℤ number (down_edge (x + 1) y) -ℤ number (right_edge x (y + 1)) -ℤ number (down_edge x y)
