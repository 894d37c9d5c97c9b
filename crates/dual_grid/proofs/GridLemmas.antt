-- The arcs of a grid, and that they join all nodes.
use Rattle.std.proofs.Common.{◌≡◌, ℕ, zero, suc, ◌+◌, ◌-◌, ◌*◌, ◌/◌, ◌%◌, ◌<◌, ◌≤◌, ◌∙◌, sym, ap, ap₂, refl, arith, inl, inr, Bool, true, false}
use Rattle.std.specs.Prelude.{ℤ, pos, if◌then◌else◌}
use Rattle.std.proofs.lemmas.Bool.{cases_Bool, false≢true}
use Rattle.std.proofs.lemmas.Nat.{div-add-mod', div-mul-add, mod-mul-add, mod_below}
use Rattle.raster_model.specs.declared.edge.Edge.{Edge}
use Rattle.raster_model.specs.declared.tiling.Window.{Window}
use Rattle.raster_model.specs.Sums.{down_edge}
use Rattle.flow_network.specs.Nets.{Shape, IsArc, tail_of}
use Rattle.wrapped_gradient.specs.Windows.{IsEdgeOf}
use Rattle.wrapped_gradient.proofs.GradientLemmas.{down_edge_of}
use Rattle.dual_grid.specs.Nodes.{cells_of, node_at, first_side, other_side, edge_number}
use Rattle.dual_grid.specs.Grids.{IsConnected, arc_capacity, cost_in_place, head_at, is_taken, leads_forth, residual_at, start_residual, window_shape}
use Rattle.dual_grid.proofs.ArcLemmas.{kinds, place_is_arc, place_tail, steep_taken}
use Rattle.dual_grid.proofs.FlowLemmas.{nothing_less, nothing_more}
use Rattle.dual_grid.proofs.NodeLemmas.{node_inside, left_inside, left_outside, first_down, other_down}
use Rattle.dual_grid.proofs.NumberLemmas.{edge_of_number}
use Rattle.dual_grid.proofs.EdgeLemmas.{has_columns, number_below}
use Rattle.dual_grid.proofs.StartLemmas.{cell_of_number}
use Rattle.sums_and_lists.proofs.Orders.{below_or_last}

-- the arc in a place across an edge: where it starts and ends, what it costs, and what it has left
module _ (v : Window) (steep : ℕ) (weight : ℕ → ℕ) (e : Edge) (is : IsEdgeOf v e) (k : ℕ) (below : k < 8) (taken : is_taken steep (weight (edge_number v e)) k ≡ true) where
  its_edge : (edge_number v e * 8 + k) / 8 ≡ edge_number v e
  its_edge = div-mul-add (edge_number v e) 8 k below

  its_place : (edge_number v e * 8 + k) % 8 ≡ k
  its_place = mod-mul-add (edge_number v e) 8 k below

  pub across_is_arc : IsArc (window_shape v steep weight) (edge_number v e * 8 + k)
  across_is_arc = place_is_arc v steep weight (edge_number v e) k (number_below v e is) below taken

  pub across_head : (window_shape v steep weight).head (edge_number v e * 8 + k) ≡ (if leads_forth k then other_side v e else first_side v e)
  across_head = ap₂ (λ (n k : ℕ). head_at v n k) its_edge its_place ∙ ap (λ (i : Edge). if leads_forth k then other_side v i else first_side v i) (edge_of_number v e is)

  pub across_tail : tail_of (window_shape v steep weight) (edge_number v e * 8 + k) ≡ (if leads_forth k then first_side v e else other_side v e)
  across_tail = place_tail v steep weight (edge_number v e) k below across_is_arc ∙ ap (λ (i : Edge). if leads_forth k then first_side v i else other_side v i) (edge_of_number v e is)

  pub across_cost : (window_shape v steep weight).cost (edge_number v e * 8 + k) ≡ cost_in_place steep (weight (edge_number v e)) k
  across_cost = ap₂ (λ (n k : ℕ). cost_in_place steep (weight n) k) its_edge its_place

  pub across_residual : (flow : ℕ → ℤ) → residual_at (arc_capacity v) steep (weight ((edge_number v e * 8 + k) / 8)) (flow ((edge_number v e * 8 + k) / 8)) ((edge_number v e * 8 + k) % 8) ≡ residual_at (arc_capacity v) steep (weight (edge_number v e)) (flow (edge_number v e)) k
  across_residual flow = ap₂ (λ (n k : ℕ). residual_at (arc_capacity v) steep (weight n) (flow n) k) its_edge its_place

pub node_of_number : (v : Window) (u : ℕ) → u < cells_of v → node_at v (v.x0 + u % (v.x1 - v.x0)) (v.y0 + u / (v.x1 - v.x0)) ≡ u
node_of_number v u l =
    let row : v.y0 + u / (v.x1 - v.x0) - v.y0 ≡ u / (v.x1 - v.x0) = omega arith in
    let column : v.x0 + u % (v.x1 - v.x0) - v.x0 ≡ u % (v.x1 - v.x0) = omega arith in
    node_inside v (v.x0 + u % (v.x1 - v.x0)) (v.y0 + u / (v.x1 - v.x0)) (cell_of_number v u l)
    ∙ ap₂ (λ (j i : ℕ). j * (v.x1 - v.x0) + i) row column ∙ div-add-mod' u (v.x1 - v.x0)

-- an arc with capacity at the start leads out of a set of nodes
abbrev Leads : (ℕ → ℕ) → Shape → (ℕ → Bool) → Type 0
Leads start s inside = (a : ℕ) × (IsArc s a × (start a ≡ s.nodes) × (inside (tail_of s a) ≡ true) × (inside (s.head a) ≡ false))

module _ (v : Window) (steep : ℕ) (weight : ℕ → ℕ) (inside : ℕ → Bool) where
  -- the arc in a place that has the capacity at the start
  through : (e : Edge) → IsEdgeOf v e → (k : ℕ) → k < 8 → is_taken steep (weight (edge_number v e)) k ≡ true → residual_at (arc_capacity v) steep (weight (edge_number v e)) (pos 0) k ≡ arc_capacity v → inside (if leads_forth k then first_side v e else other_side v e) ≡ true → inside (if leads_forth k then other_side v e else first_side v e) ≡ false → Leads (start_residual v steep weight) (window_shape v steep weight) inside
  through e is k below taken full p q = (
    edge_number v e * 8 + k,
    (
      across_is_arc v steep weight e is k below taken,
      across_residual v steep weight e is k below taken (λ n. pos 0) ∙ full,
      ap inside (across_tail v steep weight e is k below taken) ∙ p,
      ap inside (across_head v steep weight e is k below taken) ∙ q,
    ),
  )

  -- across an edge whose sides lie one inside and one outside
  out_forth : (e : Edge) → IsEdgeOf v e → inside (first_side v e) ≡ true → inside (other_side v e) ≡ false → Leads (start_residual v steep weight) (window_shape v steep weight) inside
  out_forth e is p q =
      elim (kinds steep (weight (edge_number v e))) [
        | inl f ↦ through e is 0 (omega arith) refl (let z = f.0 in rw z (nothing_more (arc_capacity v))) p q
        | inr (inl f) ↦ through e is 0 (omega arith) refl (let z = f.0.0 in let n = f.1 in rw (z, n) (nothing_less (arc_capacity v))) p q
        | inr (inr f) ↦ through e is 4 (omega arith) (steep_taken steep (weight (edge_number v e)) f) (let z = f.0.0 in let n = f.1 in rw (z, n) (nothing_less (arc_capacity v))) p q
      ]

  out_back : (e : Edge) → IsEdgeOf v e → inside (other_side v e) ≡ true → inside (first_side v e) ≡ false → Leads (start_residual v steep weight) (window_shape v steep weight) inside
  out_back e is p q =
      elim (kinds steep (weight (edge_number v e))) [
        | inl f ↦ through e is 2 (omega arith) refl (let z = f.0 in rw z (nothing_more (arc_capacity v))) p q
        | inr (inl f) ↦ through e is 2 (omega arith) refl (let z = f.0.0 in let n = f.1 in rw (z, n) (nothing_less (arc_capacity v))) p q
        | inr (inr f) ↦ through e is 6 (omega arith) (steep_taken steep (weight (edge_number v e)) f) (let z = f.0.0 in let n = f.1 in rw (z, n) (nothing_less (arc_capacity v))) p q
      ]

  module _ (y : ℕ) (row : (v.y0 ≤ y) × (y < v.y1)) where
    edge : (i : ℕ) → i < v.x1 - v.x0 → IsEdgeOf v (down_edge (v.x0 + i) y)
    edge i l = down_edge_of v (v.x0 + i) y (omega arith) (omega (arith, l)) row.0 row.1

    first : (i : ℕ) → first_side v (down_edge (v.x0 + i) y) ≡ node_at v (v.x0 + i) y
    first i = first_down v (down_edge (v.x0 + i) y) refl

    other_first : other_side v (down_edge (v.x0 + 0) y) ≡ cells_of v
    other_first = other_down v (down_edge (v.x0 + 0) y) refl ∙ left_outside v (v.x0 + 0) y (omega arith)

    other_next : (i : ℕ) → other_side v (down_edge (v.x0 + (i + 1)) y) ≡ node_at v (v.x0 + i) y
    other_next i =
        let e : v.x0 + (i + 1) - 1 ≡ v.x0 + i = omega arith in
        other_down v (down_edge (v.x0 + (i + 1)) y) refl ∙ left_inside v (v.x0 + (i + 1)) y (omega arith) ∙ ap (λ (x : ℕ). node_at v x y) e

    -- leftwards along a row, from a cell to the outside
    leaves : (i : ℕ) → i < v.x1 - v.x0 → inside (node_at v (v.x0 + i) y) ≡ true → inside (cells_of v) ≡ false → Leads (start_residual v steep weight) (window_shape v steep weight) inside
    leaves zero l p q = out_forth (down_edge (v.x0 + 0) y) (edge 0 l) (ap inside (first 0) ∙ p) (ap inside other_first ∙ q)
    leaves (suc i) l p q =
        let e : suc i ≡ i + 1 = omega arith in
        let at = rw e at p in
        elim (cases_Bool (inside (node_at v (v.x0 + i) y))) [
          | inl t ↦ leaves i (omega (arith, l)) t q
          | inr t ↦ out_forth (down_edge (v.x0 + (i + 1)) y) (edge (i + 1) (omega (arith, l))) (ap inside (first (i + 1)) ∙ at) (ap inside (other_next i) ∙ t)
        ]

    enters : (i : ℕ) → i < v.x1 - v.x0 → inside (node_at v (v.x0 + i) y) ≡ false → inside (cells_of v) ≡ true → Leads (start_residual v steep weight) (window_shape v steep weight) inside
    enters zero l p q = out_back (down_edge (v.x0 + 0) y) (edge 0 l) (ap inside other_first ∙ q) (ap inside (first 0) ∙ p)
    enters (suc i) l p q =
        let e : suc i ≡ i + 1 = omega arith in
        let at = rw e at p in
        elim (cases_Bool (inside (node_at v (v.x0 + i) y))) [
          | inl t ↦ out_back (down_edge (v.x0 + (i + 1)) y) (edge (i + 1) (omega (arith, l))) (ap inside (other_next i) ∙ t) (ap inside (first (i + 1)) ∙ at)
          | inr t ↦ enters i (omega (arith, l)) t q
        ]

  -- a node that is not on the outside's side is a cell
  is_cell : (u : ℕ) (t : Bool) → u < (window_shape v steep weight).nodes → inside u ≡ t → (inside (cells_of v) ≡ t → ⊥) → u < cells_of v
  is_cell u t l e n =
      elim (below_or_last u (cells_of v) (omega (arith, l))) [
        | inl m ↦ m
        | inr m ↦ absurd (n (ap inside (sym m) ∙ e))
      ]

  column : (u : ℕ) → u < cells_of v → u % (v.x1 - v.x0) < v.x1 - v.x0
  column u l = mod_below u (v.x1 - v.x0) (has_columns u (v.x1 - v.x0) (v.y1 - v.y0) l)

  joins : (u w : ℕ) → u < (window_shape v steep weight).nodes → w < (window_shape v steep weight).nodes → inside u ≡ true → inside w ≡ false → Leads (start_residual v steep weight) (window_shape v steep weight) inside
  joins u w l m p q =
      elim (cases_Bool (inside (cells_of v))) [
        | inl t ↦ (
            let k = is_cell w false m q (λ e. false≢true (sym e ∙ t)) in
            let c = cell_of_number v w k in
            enters (v.y0 + w / (v.x1 - v.x0)) (c.2, c.3) (w % (v.x1 - v.x0)) (column w k) (ap inside (node_of_number v w k) ∙ q) t)
        | inr t ↦ (
            let k = is_cell u true l p (λ e. false≢true (sym t ∙ e)) in
            let c = cell_of_number v u k in
            leaves (v.y0 + u / (v.x1 - v.x0)) (c.2, c.3) (u % (v.x1 - v.x0)) (column u k) (ap inside (node_of_number v u k) ∙ p) t)
      ]

pub grid_is_joined : (v : Window) (steep : ℕ) (weight : ℕ → ℕ) → IsConnected (start_residual v steep weight) (window_shape v steep weight)
grid_is_joined v steep weight inside u w l m p q = joins v steep weight inside u w l m p q
