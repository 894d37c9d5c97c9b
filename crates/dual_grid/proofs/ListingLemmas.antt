-- Lists in row order tell the weights of a window's edges and the residues of its cells.
use Rattle.std.proofs.Common.{◌≡◌, ℕ, ◌-◌, ◌*◌, ◌∙◌, ap, arith, List, Bool, true, false}
use Rattle.std.specs.Prelude.{ℤ, pos, slice_index_or}
use Rattle.raster_model.specs.declared.edge.Edge.{Edge}
use Rattle.raster_model.specs.declared.tiling.Window.{Window}
use Rattle.raster_model.specs.Raster.{masked_weight, Raster}
use Rattle.raster_model.specs.Sums.{Field}
use Rattle.wrapped_gradient.specs.Rows.{AreInRows}
use Rattle.raster_model.specs.Tiles.{width_of, height_of}
use Rattle.wrapped_gradient.specs.Windows.{IsCellOf, IsEdgeOf, edge_value}
use Rattle.wrapped_gradient.proofs.Places.{place_within}
use Rattle.wrapped_gradient.proofs.RowLemmas.{rows_tell}
use Rattle.dual_grid.specs.Nodes.{cells_of, node_at}
use Rattle.dual_grid.specs.Problems.{down_edge_weights, right_edge_weights}
use Rattle.dual_grid.specs.Starts.{open_in_window}
use Rattle.dual_grid.proofs.NodeLemmas.{cell_below, node_inside}

pub weights_listed : (r : Raster) (v : Window) (unmasked : List Bool) (right down : List ℤ) → AreInRows (right_edge_weights r v unmasked) v.x0 v.y0 (width_of v - 1) ((width_of v - 1) * height_of v) right → AreInRows (down_edge_weights r v unmasked) v.x0 v.y0 (width_of v) (width_of v * (height_of v - 1)) down → (e : Edge) → IsEdgeOf v e → edge_value v right down e ≡ pos (masked_weight r (open_in_window v unmasked) e)
weights_listed r v unmasked right down rights downs e i = go e.x e.y e.down i
  where
    go : (x y : ℕ) (d : Bool) → IsEdgeOf v (record { x = x; y = y; down = d }) → edge_value v right down (record { x = x; y = y; down = d }) ≡ pos (masked_weight r (open_in_window v unmasked) (record { x = x; y = y; down = d }))
    go x y false i =
        let a = i.start in
        let b = i.end in
        rows_tell (right_edge_weights r v unmasked) v.x0 v.y0 (width_of v - 1) ((width_of v - 1) * height_of v) x y right rights a.0 (omega (arith, a, b)) a.2
        (place_within (width_of v - 1) (height_of v) (y - v.y0) (x - v.x0) (omega (arith, a)) (omega (arith, a, b)))
    go x y true i =
        let a = i.start in
        let b = i.end in
        rows_tell (down_edge_weights r v unmasked) v.x0 v.y0 (width_of v) (width_of v * (height_of v - 1)) x y down downs a.0 (omega (arith, a)) a.2
        (place_within (width_of v) (height_of v - 1) (y - v.y0) (x - v.x0) (omega (arith, a, b)) (omega (arith, a)))

pub residues_listed : (f : Field ℤ) (v : Window) (zs : List ℤ) (x y : ℕ) → AreInRows f v.x0 v.y0 (v.x1 - v.x0) (cells_of v) zs → IsCellOf v x y → slice_index_or zs (node_at v x y) (pos 0) ≡ f x y
residues_listed f v zs x y rows c =
    ap (λ (u : ℕ). slice_index_or zs u (pos 0)) (node_inside v x y c)
    ∙ rows_tell f v.x0 v.y0 (v.x1 - v.x0) (cells_of v) x y zs rows c.0 (omega (arith, c)) c.2 (cell_below v x y c)
