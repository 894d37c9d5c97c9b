-- Whole cycles asked of the edges of a window (Costantini 1998).
use Rattle.std.specs.Prelude.{◌≡◌, ℕ, max, ℤ, neg_ℤ, List, [], ◌∷◌, unsigned_abs}
use Rattle.raster_model.specs.declared.edge.Edge.{Edge}
use Rattle.raster_model.specs.declared.tiling.Window.{Window}
use Rattle.raster_model.specs.Raster.{Raster, residue}
use Rattle.wrapped_gradient.specs.declared.corrections.Corrections.{Corrections}
use Rattle.wrapped_gradient.specs.Windows.{IsCellOf, HaveShapeOf, edge_value, round}

-- there is a correction for each right edge and for each down edge of the window
abbrev pub HasShapeOf : Window → Corrections → Type 0
HasShapeOf window corrections = HaveShapeOf window corrections.right.items corrections.down.items

-- the correction of an edge
abbrev pub correction_at : Window → Corrections → Edge → ℤ
correction_at window corrections = edge_value window corrections.right.items corrections.down.items

-- the sum of the corrections round each cell of the window is minus its residue
abbrev pub CancelResidues : Raster → Window → Corrections → Type 0
CancelResidues raster window corrections = (x y : ℕ) → IsCellOf window x y → round (correction_at window corrections) x y ≡ neg_ℤ (residue raster x y)

-- the greatest absolute number of a list, and 0 where it is empty
unfoldable pub greatest : List ℤ → ℕ
greatest [] = 0
greatest (z ∷ zs) = max (unsigned_abs z) (greatest zs)

-- the greatest absolute correction
abbrev pub greatest_of : Corrections → ℕ
greatest_of corrections = max (greatest corrections.right.items) (greatest corrections.down.items)
