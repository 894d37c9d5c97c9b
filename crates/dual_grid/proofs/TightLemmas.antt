-- Corrections that cancel the residues, and faces whose differences make the most of each correction.
use Rattle.std.proofs.Common.{◌≡◌, ℕ, ◌+◌, ◌*◌, ◌≤◌, ◌∙◌, sym, ap, ap₂, arith, List, inl, inr, Bool}
use Rattle.std.specs.Prelude.{ℤ, pos, neg_ℤ, ◌+ℤ◌, ◌-ℤ◌, ◌*ℤ◌, unsigned_abs, IsTrue, ◌&&◌, if◌then◌else◌}
use Rattle.std.proofs.lemmas.Int.{ints}
use Rattle.std.proofs.lemmas.Bool.{cases_Bool, and_parts, false≢true, and_from}
use Rattle.raster_model.specs.declared.edge.Edge.{Edge}
use Rattle.raster_model.specs.declared.tiling.Window.{Window}
use Rattle.raster_model.specs.Sums.{Field, is_edge, right_edge, down_edge, end_x, end_y}
use Rattle.raster_model.specs.Raster.{Raster, residue, is_inner, masked_weight, over, steps}
use Rattle.raster_model.specs.Cells.{face_at}
use Rattle.raster_model.specs.Certificates.{IsTileEdge, FacesFit, face_bound, face_difference, face_over, face_over_total, face_total, face_product, faces_of_tile}
use Rattle.raster_model.proofs.Planar.{planar}
use Rattle.raster_model.proofs.SumLemmas.{sum_grid-same, sum_edges-add, sum_edges-same}
use Rattle.raster_model.proofs.TileLeast.{no_column, no_row}
use Rattle.raster_model.specs.Tiles.{IsTileWindow}
use Rattle.raster_model.proofs.TileCells.{cell_count-is, face_outside}
use Rattle.raster_model.proofs.TileEdges.{ends_within, from_ends}
use Rattle.flow_network.specs.Nets.{State}
use Rattle.wrapped_gradient.specs.declared.corrections.Corrections.{Corrections}
use Rattle.wrapped_gradient.specs.Corrections.{CancelResidues, HasShapeOf, correction_at, greatest_of}
use Rattle.wrapped_gradient.specs.Windows.{IsEdgeOf}
use Rattle.dual_grid.specs.Answers.{AreCertifiedCorrections, correction_cost}
use Rattle.dual_grid.specs.Building.{AreFaces}
use Rattle.dual_grid.specs.Nodes.{cells_of, first_side, other_side}
use Rattle.dual_grid.specs.Starts.{open_in_window, TellsMask}
use Rattle.dual_grid.proofs.FaceLemmas.{difference_of_nodes}
use Rattle.dual_grid.proofs.NodeLemmas.{cell_or_not}
use Rattle.dual_grid.proofs.SideLemmas.{sides_outside}
use Rattle.sums_and_lists.specs.Sums.{where_true}

-- the weight under the mask that the list tells
weight_told : (r : Raster) (v : Window) (unmasked : List Bool) (mask : Field Bool) (e : Edge) → TellsMask v unmasked mask → IsEdgeOf v e → masked_weight r (open_in_window v unmasked) e ≡ masked_weight r mask e
weight_told r v unmasked mask e tells i =
    ap₂ (λ (a b : Bool). if a && b then r.weight e else 0) (tells e.x e.y i.start) (tells (end_x e) (end_y e) i.end)

module _ (r : Raster) (t : ℕ) (v : Window) (window : IsTileWindow r t v) (unmasked : List Bool) (mask : Field Bool) (tells : TellsMask v unmasked mask) (f : State) (k : Corrections) (faces : List ℤ) (are : AreFaces f.potential (cells_of v) (cells_of v) faces) (shape : HasShapeOf v k) (small : greatest_of k ≤ cells_of v + 1) (cancels : CancelResidues r v k) (fits : (e : Edge) → IsEdgeOf v e → unsigned_abs (f.potential (other_side v e) -ℤ f.potential (first_side v e)) ≤ r.steep * masked_weight r (open_in_window v unmasked) e) (tight : (e : Edge) → IsEdgeOf v e → correction_at v k e *ℤ (f.potential (other_side v e) -ℤ f.potential (first_side v e)) ≡ pos (masked_weight r (open_in_window v unmasked) e * steps r.steep (correction_at v k e) + over (masked_weight r (open_in_window v unmasked) e) (f.potential (other_side v e) -ℤ f.potential (first_side v e)))) where
  weight_is : (e : Edge) → IsEdgeOf v e → masked_weight r (open_in_window v unmasked) e ≡ masked_weight r mask e
  weight_is e i = weight_told r v unmasked mask e tells i

  tile_edge : (e : Edge) → IsTileEdge r t e → IsEdgeOf v e
  tile_edge e i = let w = ends_within r t v window e i in record { start = w.0; end = w.1 }

  faces_fit : (e : Edge) → IsTileEdge r t e → FacesFit r mask t (face_at r t faces) e
  faces_fit e i =
      let j = tile_edge e i in
      rw (difference_of_nodes r t v window f faces are e, sym (weight_is e j)) (fits e j)

  -- each edge's part of the two sums
  edge_part : (e : Edge) → IsTrue (is_edge r.width r.height e) → correction_at v k e *ℤ face_difference (faces_of_tile r t (face_at r t faces)) e ≡ where_true (is_inner r t e) (pos (masked_weight r mask e * steps r.steep (correction_at v k e))) +ℤ face_over r mask t (face_at r t faces) e
  edge_part e i =
      elim (cases_Bool (is_inner r t e)) [
        | inl inner ↦ (
            let j = tile_edge e (and_from (is_edge r.width r.height e) (is_inner r t e) i inner) in
            rw (inner, difference_of_nodes r t v window f faces are e, sym (weight_is e j)) (in_two _ _ _ (tight e j)))
        | inr outer ↦ (
            let n = λ (j : IsEdgeOf v e). false≢true (sym outer ∙ (and_parts (is_edge r.width r.height e) (is_inner r t e) (from_ends r t v window e j.start j.end)).1) in
            let sides = sides_outside v e n in
            let none : face_difference (faces_of_tile r t (face_at r t faces)) e ≡ pos 0 = difference_of_nodes r t v window f faces are e ∙ level (f.potential (other_side v e)) (f.potential (first_side v e)) (f.potential (cells_of v)) (ap f.potential sides.1) (ap f.potential sides.0) in
            rw (outer, none) (omega (arith, ints)))
      ]
    where
      in_two : (z : ℤ) (a b : ℕ) → z ≡ pos (a + b) → z ≡ pos a +ℤ pos b
      in_two z a b e = omega (arith, ints, e)

      level : (a b c : ℤ) → a ≡ c → b ≡ c → a -ℤ b ≡ pos 0
      level a b c p q = omega (arith, ints, p, q)

  -- a cell's face times its residue, by the corrections round it
  cell_part : (x y : ℕ) → faces_of_tile r t (face_at r t faces) x y *ℤ residue r x y ≡ faces_of_tile r t (face_at r t faces) x y *ℤ (correction_at v k (right_edge x (y + 1)) +ℤ correction_at v k (down_edge x y) -ℤ correction_at v k (right_edge x y) -ℤ correction_at v k (down_edge (x + 1) y))
  cell_part x y =
      elim (cell_or_not v x y) [
        | inl c ↦ ap (λ (z : ℤ). faces_of_tile r t (face_at r t faces) x y *ℤ z) (turned (correction_at v k (right_edge x y)) (correction_at v k (down_edge (x + 1) y)) (correction_at v k (right_edge x (y + 1))) (correction_at v k (down_edge x y)) (residue r x y) (cancels x y c))
        | inr n ↦ rw (face_outside r t v window (face_at r t faces) x y n) (omega (arith, ints))
      ]
    where
      turned : (p q b l z : ℤ) → p +ℤ q -ℤ b -ℤ l ≡ neg_ℤ z → z ≡ b +ℤ l -ℤ p -ℤ q
      turned p q b l z e = omega (arith, ints, e)

  -- what each inner edge adds to the cost
  cost_part : Edge → ℤ
  cost_part e = where_true (is_inner r t e) (pos (masked_weight r mask e * steps r.steep (correction_at v k e)))

  totals_meet : face_bound r mask t (face_at r t faces) ≡ correction_cost r mask t v k
  unfolding face_total face_product face_over_total correction_cost cost_part
  totals_meet =
      let w = r.width in
      let h = r.height in
      let face = faces_of_tile r t (face_at r t faces) in
      less _ _ _
      (sum_grid-same w h (λ x y. face x y *ℤ residue r x y) (λ x y. face x y *ℤ (correction_at v k (right_edge x (y + 1)) +ℤ correction_at v k (down_edge x y) -ℤ correction_at v k (right_edge x y) -ℤ correction_at v k (down_edge (x + 1) y))) (λ x y l m. cell_part x y)
      ∙ planar w h face (correction_at v k) (no_column r t (face_at r t faces)) (no_row r t (face_at r t faces))
      ∙ sum_edges-same w h (λ e. correction_at v k e *ℤ face_difference face e) (λ e. cost_part e +ℤ face_over r mask t (face_at r t faces) e) edge_part
      ∙ sum_edges-add w h cost_part (face_over r mask t (face_at r t faces)))
    where
      less : (total cost above : ℤ) → total ≡ cost +ℤ above → total -ℤ above ≡ cost
      less total cost above e = omega (arith, ints, e)

  pub tight_answer : AreCertifiedCorrections r mask t v k faces
  tight_answer = record {
    shape = shape;
    cancel = cancels;
    small = small;
    count = are.count ∙ sym (cell_count-is r t v window);
    fits = faces_fit;
    equal = totals_meet;
  }
