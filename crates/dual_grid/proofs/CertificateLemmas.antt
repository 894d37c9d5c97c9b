-- What a balanced grid answers is certified.
use Rattle.std.proofs.Common.{◌≡◌, ℕ, ◌+◌, ◌-◌, ◌*◌, ◌<◌, ◌≤◌, ◌∙◌, sym, ap, ap₂, refl, arith, inl, inr, List, Bool, true, false}
use Rattle.std.specs.Prelude.{ℤ, pos, neg_ℤ, ◌+ℤ◌, ◌-ℤ◌, unsigned_abs, slice_index_or}
use Rattle.std.proofs.lemmas.Bool.{cases_lt}
use Rattle.std.proofs.lemmas.Int.{ints}
use Rattle.std.proofs.lemmas.List.{get_or_past}
use Rattle.raster_model.specs.declared.edge.Edge.{Edge}
use Rattle.raster_model.specs.declared.tiling.Window.{Window}
use Rattle.raster_model.specs.Sums.{Field, right_edge, down_edge}
use Rattle.raster_model.specs.Raster.{Raster, residue, masked_weight}
use Rattle.raster_model.specs.Tiles.{width_of, IsTileWindow, IsRasterWindow}
use Rattle.flow_network.specs.Nets.{HasReducedCosts, HasNoExcess}
use Rattle.flow_network.specs.Moves.{IsConserved}
use Rattle.wrapped_gradient.specs.declared.corrections.Corrections.{Corrections}
use Rattle.wrapped_gradient.specs.Corrections.{CancelResidues, correction_at}
use Rattle.wrapped_gradient.specs.Windows.{IsCellOf, IsEdgeOf, round}
use Rattle.wrapped_gradient.proofs.CorrectionLemmas.{greatest_of_least}
use Rattle.wrapped_gradient.proofs.GradientLemmas.{right_edge_of, down_edge_of}
use Rattle.wrapped_gradient.proofs.Places.{field_at}
use Rattle.dual_grid.specs.Answers.{AreCertifiedCorrections, IsNearStart}
use Rattle.dual_grid.specs.Building.{AreFaces, AreEdgeFlows}
use Rattle.dual_grid.specs.Grids.{AreWeighed, arc_capacity, capacity_of, start_residual, window_shape, window_state}
use Rattle.dual_grid.specs.Nodes.{cells_of, node_at, rights_of, downs_of, edges_of, edge_number, edge_of, first_side, other_side}
use Rattle.dual_grid.specs.Starts.{supply_at, start_state, open_in_window, TellsMask}
use Rattle.dual_grid.specs.Problems.{IsTight}
use Rattle.dual_grid.proofs.BalanceLemmas.{cell_balance}
use Rattle.dual_grid.proofs.EdgeLemmas.{right_number_below, down_number_below}
use Rattle.dual_grid.proofs.FaceLemmas.{flow_is_small, flow_is_tight}
use Rattle.dual_grid.proofs.NodeLemmas.{node_inside, node_below, cell_below}
use Rattle.dual_grid.proofs.NumberLemmas.{edge_in, number_of_edge}
use Rattle.dual_grid.proofs.SupplyLemmas.{supply_inside}
use Rattle.dual_grid.proofs.TightLemmas.{tight_answer}

-- what a cell has at the start is its residue
cell_supply : (f : Field ℤ) (v : Window) (x y : ℕ) → IsCellOf v x y → supply_at f v (node_at v x y) ≡ f x y
cell_supply f v x y c =
    let a = v.x1 - v.x0 in
    let column : v.x0 + (x - v.x0) ≡ x = omega (arith, c) in
    let row : v.y0 + (y - v.y0) ≡ y = omega (arith, c) in
    ap (λ (u : ℕ). supply_at f v u) (node_inside v x y c)
    ∙ supply_inside f v ((y - v.y0) * a + (x - v.x0)) (cell_below v x y c)
    ∙ field_at f a v.x0 v.y0 (y - v.y0) (x - v.x0) (omega (arith, c))
    ∙ ap₂ (λ (m n : ℕ). f m n) column row

round_of : (f g : Edge → ℤ) (v : Window) (x y : ℕ) → IsCellOf v x y → ((e : Edge) → IsEdgeOf v e → f e ≡ g e) → round f x y ≡ round g x y
round_of f g v x y c same =
    sums _ _ _ _ _ _ _ _
    (same (right_edge x y) (right_edge_of v x y c.0 c.1 c.2 (omega (arith, c))))
    (same (down_edge (x + 1) y) (down_edge_of v (x + 1) y (omega (arith, c)) (omega (arith, c)) c.2 c.3))
    (same (right_edge x (y + 1)) (right_edge_of v x (y + 1) c.0 c.1 (omega (arith, c)) (omega (arith, c))))
    (same (down_edge x y) (down_edge_of v x y c.0 (omega (arith, c)) c.2 c.3))
  where
    sums : (a b c d i j k l : ℤ) → a ≡ i → b ≡ j → c ≡ k → d ≡ l → a +ℤ b -ℤ c -ℤ d ≡ i +ℤ j -ℤ k -ℤ l
    sums a b c d i j k l p q t u = rw (p, q, t, u) refl

module _ (r : Raster) (t : ℕ) (v : Window) (window : IsTileWindow r t v) (little : IsRasterWindow v) (unmasked : List Bool) (mask : Field Bool) (tells : TellsMask v unmasked mask) (steep : ℕ) (told : steep ≡ r.steep) (some : 1 ≤ steep) (weight : ℕ → ℕ) (weighed : AreWeighed r (open_in_window v unmasked) v weight) (flow excess potential : ℕ → ℤ) (within : (n : ℕ) → unsigned_abs (flow n) ≤ capacity_of (arc_capacity v) steep (weight n)) (kept : HasReducedCosts (window_shape v steep weight) (window_state v steep weight flow excess potential)) (conserved : IsConserved (window_shape v steep weight) (start_state (start_residual v steep weight) (residue r) v) (window_state v steep weight flow excess potential)) (balanced : HasNoExcess (window_shape v steep weight) (window_state v steep weight flow excess potential)) (near : IsNearStart (start_residual v steep weight) (window_shape v steep weight) (window_state v steep weight flow excess potential)) (k : Corrections) (are_flows : AreEdgeFlows v flow k) (faces : List ℤ) (are : AreFaces potential (cells_of v) (cells_of v) faces) where
  -- a correction is what flows across the edge
  correction_is : (e : Edge) → IsEdgeOf v e → correction_at v k e ≡ flow (edge_number v e)
  correction_is e i = go e.x e.y e.down i
    where
      go : (x y : ℕ) (d : Bool) → IsEdgeOf v (record { x = x; y = y; down = d }) → correction_at v k (record { x = x; y = y; down = d }) ≡ flow (edge_number v (record { x = x; y = y; down = d }))
      go x y true i = are_flows.down ((y - v.y0) * width_of v + (x - v.x0)) (down_number_below v x y i)
      go x y false i = are_flows.right ((y - v.y0) * (width_of v - 1) + (x - v.x0)) (right_number_below v x y i)

  cancels : CancelResidues r v k
  cancels x y c =
      round_of (correction_at v k) (λ e. flow (edge_number v e)) v x y c correction_is
      ∙ cell_balance v little steep weight (residue r) flow excess potential within conserved x y c (balanced (node_at v x y) (let b = node_below v x y in omega (arith, b)))
      ∙ ap neg_ℤ (cell_supply (residue r) v x y c)

  small_at : (n : ℕ) → n < edges_of v → unsigned_abs (flow n) ≤ arc_capacity v
  small_at n l =
      let e = edge_of v n in
      let is = edge_in v little n l in
      let number = number_of_edge v little n l in
      rw number at (flow_is_small v steep some weight flow excess potential kept near e is (within (edge_number v e)))

  rights_small : (i : ℕ) → unsigned_abs (slice_index_or k.right.items i (pos 0)) ≤ arc_capacity v
  rights_small i =
      elim (cases_lt i (rights_of v)) [
        | inl l ↦ rw (are_flows.right i l) (small_at i (omega (arith, l)))
        | inr l ↦ rw (get_or_past k.right.items i (pos 0) (omega (arith, are_flows.right_count, l))) (omega (arith, ints))
      ]

  downs_small : (i : ℕ) → unsigned_abs (slice_index_or k.down.items i (pos 0)) ≤ arc_capacity v
  downs_small i =
      elim (cases_lt i (downs_of v)) [
        | inl l ↦ rw (are_flows.down i l) (small_at (rights_of v + i) (omega (arith, l)))
        | inr l ↦ rw (get_or_past k.down.items i (pos 0) (omega (arith, are_flows.down_count, l))) (omega (arith, ints))
      ]

  pub is_answer : AreCertifiedCorrections r mask t v k faces
  is_answer =
      tight_answer r t v window unmasked mask tells (window_state v steep weight flow excess potential) k faces are (are_flows.right_count, are_flows.down_count) (greatest_of_least k (arc_capacity v) rights_small downs_small) cancels
      (λ e i. (tight e i).within) (λ e i. (tight e i).whole)
    where
      by_raster : (q p w u : ℕ) (d k z : ℤ) → q ≡ p → w ≡ u → z ≡ k → IsTight q w d k → IsTight p u d z
      by_raster q p w u d k z i j l t = rw (l, sym i, sym j) t

      tight : (e : Edge) → IsEdgeOf v e → IsTight r.steep (masked_weight r (open_in_window v unmasked) e) (potential (other_side v e) -ℤ potential (first_side v e)) (correction_at v k e)
      tight e i = by_raster steep r.steep (weight (edge_number v e)) (masked_weight r (open_in_window v unmasked) e) (potential (other_side v e) -ℤ potential (first_side v e)) (flow (edge_number v e)) (correction_at v k e) told (weighed e i) (correction_is e i)
          (flow_is_tight v steep some weight flow excess potential kept near e i (within (edge_number v e)))
