-- The order of lists: of faces by the window of a tile, and of flows by the list of edges.
use Rattle.std.specs.Prelude.{◌≡◌, ℕ, ◌+◌, ◌-◌, ◌*◌, ◌<◌, ◌≤◌, IsTrue, List, length, filter, slice_get, Some}
use Rattle.raster_model.specs.declared.edge.Edge.{Edge}
use Rattle.raster_model.specs.declared.scene.Scene.{Scene}
use Rattle.raster_model.specs.declared.tiling.Window.{Window}
use Rattle.raster_model.specs.Raster.{Raster}
use Rattle.raster_model.specs.Cells.{cell_count, cells_before}
use Rattle.raster_model.specs.Flows.{is_seam_edge, seam_count, seam_place}
use Rattle.raster_model.specs.EdgeList.{edge_list}
use Rattle.raster_model.specs.Tiles.{IsWindowOf}
use Rattle.raster_model.specs.Scene.{raster_of}

-- the upper left corner (x, y) of a cell whose four corners lie in the window
abbrev pub IsCellAt : Window → ℕ → ℕ → Type 0
IsCellAt window x y = (window.x0 ≤ x) × (x < window.x1) × (window.y0 ≤ y) × (y < window.y1)

-- a tile has the cells of its window, and they are numbered by rows from the top, each from the left
abbrev pub CellsFollowTheWindow : Type 0
CellsFollowTheWindow = (scene : Scene) (tile : ℕ) (window : Window) → IsWindowOf scene.tiling tile window → (cell_count (raster_of scene) tile ≡ (window.y1 - window.y0) * (window.x1 - window.x0)) × ((x y : ℕ) → IsCellAt window x y → cells_before (raster_of scene) tile x y ≡ (y - window.y0) * (window.x1 - window.x0) + (x - window.x0))

-- the seam edges in edge order
abbrev pub seam_list : Raster → List Edge
seam_list raster = filter (is_seam_edge raster) (edge_list raster.width raster.height)

-- there are as many as are counted, and each stands at its place
abbrev pub FlowsFollowEdgeOrder : Type 0
FlowsFollowEdgeOrder = (raster : Raster) → (length (seam_list raster) ≡ seam_count raster) × ((edge : Edge) → IsTrue (is_seam_edge raster edge) → slice_get (seam_list raster) (seam_place raster edge) ≡ Some edge)
