-- What a balanced grid answers: corrections that cancel the residues, and the faces that certify them (Costantini 1998).
use Rattle.std.specs.Prelude.{◌≡◌, ℕ, ◌+◌, ◌*◌, ◌<◌, ◌≤◌, ℤ, pos, ◌+ℤ◌, ◌<ℤ◌, Bool, List, length}
use Rattle.raster_model.specs.declared.edge.Edge.{Edge}
use Rattle.raster_model.specs.declared.tiling.Window.{Window}
use Rattle.raster_model.specs.Sums.{Field, sum_edges}
use Rattle.raster_model.specs.Raster.{Raster, is_inner, masked_weight, steps}
use Rattle.raster_model.specs.Certificates.{IsTileEdge, FacesFit, face_bound}
use Rattle.raster_model.specs.Cells.{cell_count, face_at}
use Rattle.flow_network.specs.Nets.{Shape, State, IsArc, total_excess}
use Rattle.wrapped_gradient.specs.declared.corrections.Corrections.{Corrections}
use Rattle.wrapped_gradient.specs.Corrections.{HasShapeOf, CancelResidues, correction_at, greatest_of}
use Rattle.raster_model.specs.Tilings.{tiled_by}
use Rattle.raster_model.specs.Tiles.{IsTileWindow}
use Rattle.dual_grid.specs.Nodes.{cells_of}
use Rattle.sums_and_lists.specs.Sums.{where_true}

-- each arc's residual capacity differs from that at the start by less than there are nodes
abbrev pub IsNearStart : (ℕ → ℕ) → Shape → State → Type 0
IsNearStart start s state = (a : ℕ) → IsArc s a → (state.residual a < start a + s.nodes) × (start a < state.residual a + s.nodes)

-- the same, also after as many units have moved as all nodes have to send
abbrev pub StaysNearStart : (ℕ → ℕ) → Shape → State → Type 0
StaysNearStart start s state = (a : ℕ) → IsArc s a → ((pos (state.residual a) +ℤ total_excess s state) <ℤ pos (start a + s.nodes)) × ((pos (start a) +ℤ total_excess s state) <ℤ pos (state.residual a + s.nodes))

-- what corrections cost in tile t, whose window is v: the sum of weight under the mask times steps of the correction over the tile's inner edges
unfoldable pub correction_cost : Raster → Field Bool → ℕ → Window → Corrections → ℤ
correction_cost raster mask tile window corrections = sum_edges raster.width raster.height (λ e. where_true (is_inner raster tile e) (pos (masked_weight raster mask e * steps raster.steep (correction_at window corrections e))))

-- corrections for the edges of tile t, whose window is v, and a list of faces that certifies them; none is above the number of cells by more than 1
pub record AreCertifiedCorrections (raster : Raster) (mask : Field Bool) (tile : ℕ) (window : Window) (corrections : Corrections) (faces : List ℤ) : Type 0 where
  pub shape : HasShapeOf window corrections
  pub cancel : CancelResidues raster window corrections
  pub small : greatest_of corrections ≤ cells_of window + 1
  pub count : length faces ≡ cell_count raster tile
  pub fits : (e : Edge) → IsTileEdge raster tile e → FacesFit raster mask tile (face_at raster tile faces) e
  pub equal : face_bound raster mask tile (face_at raster tile faces) ≡ correction_cost raster mask tile window corrections

-- they are such for the window, whatever the tiles of the raster are: for each tile that has exactly the window's pixels
abbrev pub AreCertifiedOver : Raster → Field Bool → Window → Corrections → List ℤ → Type 0
AreCertifiedOver raster mask window corrections faces = (tiles : Field ℕ) (count tile : ℕ) → IsTileWindow (tiled_by raster tiles count) tile window → AreCertifiedCorrections (tiled_by raster tiles count) mask tile window corrections faces
