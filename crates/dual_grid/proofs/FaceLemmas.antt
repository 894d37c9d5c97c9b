-- Faces are differences of potentials, and what flows does so where they differ by the whole weight.
use Rattle.std.proofs.Common.{◌≡◌, ◌⊎◌, ℕ, zero, suc, ◌+◌, ◌-◌, ◌*◌, ◌<◌, ◌≤◌, ◌∙◌, sym, ap, refl, arith, List, inl, inr, Bool, true, false}
use Rattle.std.specs.Prelude.{ℤ, pos, neg_ℤ, ◌+ℤ◌, ◌-ℤ◌, ◌*ℤ◌, ◌≤ℤ◌, unsigned_abs, slice_index_or}
use Rattle.std.proofs.lemmas.Int.{ints}
use Rattle.raster_model.specs.declared.edge.Edge.{Edge}
use Rattle.raster_model.specs.declared.tiling.Window.{Window}
use Rattle.raster_model.specs.Cells.{face_at}
use Rattle.raster_model.specs.Certificates.{above, left, face_difference, faces_of_tile}
use Rattle.raster_model.specs.Raster.{Raster}
use Rattle.raster_model.specs.Tiles.{IsTileWindow}
use Rattle.raster_model.proofs.TileCells.{face_inside, face_outside, cells_before-is}
use Rattle.flow_network.specs.Nets.{State, HasReducedCosts}
use Rattle.wrapped_gradient.specs.Windows.{IsCellOf, IsEdgeOf}
use Rattle.dual_grid.specs.Answers.{IsNearStart}
use Rattle.dual_grid.specs.Building.{AreFaces, IsHeld}
use Rattle.dual_grid.specs.Grids.{amount_of, arc_capacity, capacity_of, cost_in_place, is_taken, leads_forth, residual_at, start_residual, window_shape, window_state}
use Rattle.dual_grid.specs.Nodes.{cells_of, node_at, node_above, node_left, first_side, other_side, edge_number}
use Rattle.dual_grid.specs.Problems.{IsTight}
use Rattle.dual_grid.proofs.ArcLemmas.{IsFree, IsPlain, IsSplit, free_unsplit, kinds, plain_unsplit, steep_taken}
use Rattle.dual_grid.proofs.CheckLemmas.{back_product, forth_product, more_tight, none_tight, one_tight}
use Rattle.dual_grid.proofs.FlowLemmas.{amount_parts, nothing_less, nothing_more}
use Rattle.dual_grid.proofs.GridLemmas.{across_cost, across_head, across_is_arc, across_residual, across_tail}
use Rattle.dual_grid.proofs.NodeLemmas.{cell_or_not, cell_below, node_inside, node_outside, above_inside, above_outside, left_inside, left_outside, first_down, first_right, other_down, other_right}
use Rattle.std.proofs.lemmas.Bool.{cases_lt}

module _ (r : Raster) (t : ℕ) (v : Window) (is : IsTileWindow r t v) (f : State) (faces : List ℤ) (are : AreFaces f.potential (cells_of v) (cells_of v) faces) where
  listed : (x y : ℕ) → IsCellOf v x y → face_at r t faces x y ≡ f.potential (cells_of v) -ℤ f.potential (node_at v x y)
  unfolding face_at
  listed x y c =
      let place = cells_before-is r t v is x y c ∙ sym (node_inside v x y c) in
      let below : node_at v x y < cells_of v = rw (node_inside v x y c) (cell_below v x y c) in
      ap (λ (k : ℕ). slice_index_or faces k (pos 0)) place ∙ are.values (node_at v x y) below

  nothing : (u : ℕ) → u ≡ cells_of v → pos 0 ≡ f.potential (cells_of v) -ℤ f.potential u
  nothing u e = rw e (omega (arith, ints))

  -- a face is how much higher the outside lies than the node, beyond the tile too
  pub face_of_node : (x y : ℕ) → faces_of_tile r t (face_at r t faces) x y ≡ f.potential (cells_of v) -ℤ f.potential (node_at v x y)
  face_of_node x y =
      elim (cell_or_not v x y) [
        | inl c ↦ face_inside r t v is (face_at r t faces) x y c ∙ listed x y c
        | inr n ↦ face_outside r t v is (face_at r t faces) x y n ∙ nothing (node_at v x y) (node_outside v x y n)
      ]

  above_of_node : (x y : ℕ) → above (faces_of_tile r t (face_at r t faces)) x y ≡ f.potential (cells_of v) -ℤ f.potential (node_above v x y)
  above_of_node x zero = nothing (node_above v x zero) (above_outside v x zero (omega arith))
  above_of_node x (suc y) =
      elim (cases_lt v.y0 (suc y)) [
        | inl l ↦ (
            let e : suc y - 1 ≡ y = omega arith in
            face_of_node x y ∙ ap (λ (k : ℕ). f.potential (cells_of v) -ℤ f.potential k) (ap (λ (i : ℕ). node_at v x i) (sym e) ∙ sym (above_inside v x (suc y) l)))
        | inr l ↦ (
            face_outside r t v is (face_at r t faces) x y (λ c. omega (arith, c, l)) ∙ nothing (node_above v x (suc y)) (above_outside v x (suc y) l))
      ]

  left_of_node : (x y : ℕ) → left (faces_of_tile r t (face_at r t faces)) x y ≡ f.potential (cells_of v) -ℤ f.potential (node_left v x y)
  left_of_node zero y = nothing (node_left v zero y) (left_outside v zero y (omega arith))
  left_of_node (suc x) y =
      elim (cases_lt v.x0 (suc x)) [
        | inl l ↦ (
            let e : suc x - 1 ≡ x = omega arith in
            face_of_node x y ∙ ap (λ (k : ℕ). f.potential (cells_of v) -ℤ f.potential k) (ap (λ (i : ℕ). node_at v i y) (sym e) ∙ sym (left_inside v (suc x) y l)))
        | inr l ↦ (
            face_outside r t v is (face_at r t faces) x y (λ c. omega (arith, c, l)) ∙ nothing (node_left v (suc x) y) (left_outside v (suc x) y l))
      ]

  -- a face difference is one of potentials
  pub difference_of_nodes : (e : Edge) → face_difference (faces_of_tile r t (face_at r t faces)) e ≡ f.potential (other_side v e) -ℤ f.potential (first_side v e)
  difference_of_nodes e = go e.x e.y e.down
    where
      subtract : (o p q a b : ℤ) → a ≡ o -ℤ p → b ≡ o -ℤ q → a -ℤ b ≡ q -ℤ p
      subtract o p q a b d e = omega (arith, ints, d, e)

      go : (x y : ℕ) (d : Bool) → face_difference (faces_of_tile r t (face_at r t faces)) (record { x = x; y = y; down = d }) ≡ f.potential (other_side v (record { x = x; y = y; down = d })) -ℤ f.potential (first_side v (record { x = x; y = y; down = d }))
      go x y true =
          rw (first_down v (record { x = x; y = y; down = true }) refl, other_down v (record { x = x; y = y; down = true }) refl)
          (subtract (f.potential (cells_of v)) (f.potential (node_at v x y)) (f.potential (node_left v x y)) _ _ (face_of_node x y) (left_of_node x y))
      go x y false =
          rw (first_right v (record { x = x; y = y; down = false }) refl, other_right v (record { x = x; y = y; down = false }) refl)
          (subtract (f.potential (cells_of v)) (f.potential (node_above v x y)) (f.potential (node_at v x y)) _ _ (above_of_node x y) (face_of_node x y))

-- a flow times a difference that is held is the most that it can be
pub held_tight : (steep w a b : ℕ) (d k : ℤ) → k ≡ pos a -ℤ pos b → (a ≡ 0) ⊎ (b ≡ 0) → IsHeld steep w a b d → IsTight steep w d k
held_tight steep w zero zero d k e o h =
    let none : k ≡ pos 0 = omega (arith, ints, e) in
    none_tight steep w d k none h.within (h.none refl refl)
held_tight steep w (suc zero) zero d k e o h =
    let size : k ≡ pos 1 = omega (arith, ints, e) in
    let least = h.forth (omega arith) in
    one_tight steep w d k (omega (arith, ints, size)) h.within (omega (arith, ints, least)) (along d k size (omega (arith, ints, least)))
  where
    along : (d k : ℤ) → k ≡ pos 1 → pos 0 ≤ℤ d → k *ℤ d ≡ pos (unsigned_abs k * unsigned_abs d)
    along d k e l = rw e (omega (arith, ints, l))
held_tight steep w (suc (suc a)) zero d k e o h =
    let size : k ≡ pos (suc (suc a)) = omega (arith, ints, e) in
    let least = h.forth (omega arith) in
    let most = h.forth_more (omega arith) in
    let within = h.within in
    more_tight steep w d k (λ z. omega (arith, ints, size, z)) (omega (arith, ints, least)) (omega (arith, ints, most, within)) (forth_product k d (omega (arith, ints, size)) (omega (arith, ints, least)))
held_tight steep w zero (suc zero) d k e o h =
    let size : k ≡ neg_ℤ (pos 1) = omega (arith, ints, e) in
    let least = h.back (omega arith) in
    one_tight steep w d k (omega (arith, ints, size)) h.within (omega (arith, ints, least)) (back_product k d (omega (arith, ints, size)) (omega (arith, ints, least)))
held_tight steep w zero (suc (suc b)) d k e o h =
    let size : k ≡ neg_ℤ (pos (suc (suc b))) = omega (arith, ints, e) in
    let least = h.back (omega arith) in
    let most = h.back_more (omega arith) in
    let within = h.within in
    more_tight steep w d k (λ z. omega (arith, ints, size, z)) (omega (arith, ints, least)) (omega (arith, ints, most, within)) (back_product k d (omega (arith, ints, size)) (omega (arith, ints, least)))
held_tight steep w (suc a) (suc b) d k e (inl z) h = absurd (omega (arith, z))
held_tight steep w (suc a) (suc b) d k e (inr z) h = absurd (omega (arith, z))

module _ (v : Window) (steep : ℕ) (some : 1 ≤ steep) (weight : ℕ → ℕ) (flow excess potential : ℕ → ℤ) (kept : HasReducedCosts (window_shape v steep weight) (window_state v steep weight flow excess potential)) (near : IsNearStart (start_residual v steep weight) (window_shape v steep weight) (window_state v steep weight flow excess potential)) (e : Edge) (is : IsEdgeOf v e) (bounded : unsigned_abs (flow (edge_number v e)) ≤ capacity_of (arc_capacity v) steep (weight (edge_number v e))) where
  -- the arc in a place with capacity left costs no less than the difference in its direction
  forth_holds : (k : ℕ) → k < 8 → is_taken steep (weight (edge_number v e)) k ≡ true → leads_forth k ≡ true → 0 < residual_at (arc_capacity v) steep (weight (edge_number v e)) (flow (edge_number v e)) k → (potential (other_side v e) -ℤ potential (first_side v e)) ≤ℤ cost_in_place steep (weight (edge_number v e)) k
  forth_holds k below taken forth l =
      let arc = across_is_arc v steep weight e is k below taken in
      let low = kept.at_least (edge_number v e * 8 + k) arc (rw (across_residual v steep weight e is k below taken flow) l) in
      held _ _ _ _ _ _ (ap potential (rw forth at (across_tail v steep weight e is k below taken))) (ap potential (rw forth at (across_head v steep weight e is k below taken))) (across_cost v steep weight e is k below taken) low
    where
      held : (t h x y c d : ℤ) → x ≡ t → y ≡ h → c ≡ d → pos 0 ≤ℤ (c +ℤ x -ℤ y) → (h -ℤ t) ≤ℤ d
      held t h x y c d i j m n = omega (arith, ints, i, j, m, n)

  back_holds : (k : ℕ) → k < 8 → is_taken steep (weight (edge_number v e)) k ≡ true → leads_forth k ≡ false → 0 < residual_at (arc_capacity v) steep (weight (edge_number v e)) (flow (edge_number v e)) k → neg_ℤ (potential (other_side v e) -ℤ potential (first_side v e)) ≤ℤ cost_in_place steep (weight (edge_number v e)) k
  back_holds k below taken back l =
      let arc = across_is_arc v steep weight e is k below taken in
      let low = kept.at_least (edge_number v e * 8 + k) arc (rw (across_residual v steep weight e is k below taken flow) l) in
      held _ _ _ _ _ _ (ap potential (rw back at (across_tail v steep weight e is k below taken))) (ap potential (rw back at (across_head v steep weight e is k below taken))) (across_cost v steep weight e is k below taken) low
    where
      held : (t h x y c d : ℤ) → x ≡ t → y ≡ h → c ≡ d → pos 0 ≤ℤ (c +ℤ x -ℤ y) → neg_ℤ (t -ℤ h) ≤ℤ d
      held t h x y c d i j m n = omega (arith, ints, i, j, m, n)

  -- the arc in a place that has the whole capacity at the start keeps some
  keeps : (k : ℕ) → k < 8 → is_taken steep (weight (edge_number v e)) k ≡ true → residual_at (arc_capacity v) steep (weight (edge_number v e)) (pos 0) k ≡ arc_capacity v → 0 < residual_at (arc_capacity v) steep (weight (edge_number v e)) (flow (edge_number v e)) k
  keeps k below taken full =
      let h = (near (edge_number v e * 8 + k) (across_is_arc v steep weight e is k below taken)).1 in
      let s = across_residual v steep weight e is k below taken (λ n. pos 0) ∙ full in
      let r = across_residual v steep weight e is k below taken flow in
      omega (arith, h, s, r)

  -- ---- at a weight of 0
  free_held : IsFree (weight (edge_number v e)) → IsHeld steep (weight (edge_number v e)) (amount_of (flow (edge_number v e))) (amount_of (neg_ℤ (flow (edge_number v e)))) (potential (other_side v e) -ℤ potential (first_side v e))
  free_held f =
      let z = f.0 in
      let none = f.2 in
      let up : (potential (other_side v e) -ℤ potential (first_side v e)) ≤ℤ pos (weight (edge_number v e)) = forth_holds 0 (omega arith) refl refl (keeps 0 (omega arith) refl (rw z (nothing_more (arc_capacity v)))) in
      let down : neg_ℤ (potential (other_side v e) -ℤ potential (first_side v e)) ≤ℤ pos (weight (edge_number v e)) = back_holds 2 (omega arith) refl refl (keeps 2 (omega arith) refl (rw z (nothing_more (arc_capacity v)))) in
      let level : (potential (other_side v e) -ℤ potential (first_side v e)) ≡ pos 0 = omega (arith, ints, up, down, none) in
      level_held (weight (edge_number v e)) _ _ (potential (other_side v e) -ℤ potential (first_side v e)) none level
    where
      level_held : (w a b : ℕ) (d : ℤ) → w ≡ 0 → d ≡ pos 0 → IsHeld steep w a b d
      level_held w a b d none level = rw (none, level) (record {
        within = omega arith;
        none = λ x y. omega arith;
        forth = λ x. omega (arith, ints);
        forth_more = λ x. omega (arith, ints);
        back = λ x. omega (arith, ints);
        back_more = λ x. omega (arith, ints);
      })

  -- ---- without steep arcs
  plain_held : IsPlain steep (weight (edge_number v e)) → IsHeld steep (weight (edge_number v e)) (amount_of (flow (edge_number v e))) (amount_of (neg_ℤ (flow (edge_number v e)))) (potential (other_side v e) -ℤ potential (first_side v e))
  plain_held f =
      let z = f.0.0 in
      let n = f.1 in
      let once : steep ≡ 1 = omega (arith, some, f.2) in
      let up : (potential (other_side v e) -ℤ potential (first_side v e)) ≤ℤ pos (weight (edge_number v e)) = forth_holds 0 (omega arith) refl refl (keeps 0 (omega arith) refl (rw (z, n) (nothing_less (arc_capacity v)))) in
      let down : neg_ℤ (potential (other_side v e) -ℤ potential (first_side v e)) ≤ℤ pos (weight (edge_number v e)) = back_holds 2 (omega arith) refl refl (keeps 2 (omega arith) refl (rw (z, n) (nothing_less (arc_capacity v)))) in
      let forth : 0 < amount_of (flow (edge_number v e)) → neg_ℤ (potential (other_side v e) -ℤ potential (first_side v e)) ≤ℤ neg_ℤ (pos (weight (edge_number v e))) = λ l. back_holds 1 (omega arith) f.0.1 refl (rw (z, n) l) in
      let back : 0 < amount_of (neg_ℤ (flow (edge_number v e))) → (potential (other_side v e) -ℤ potential (first_side v e)) ≤ℤ neg_ℤ (pos (weight (edge_number v e))) = λ l. forth_holds 3 (omega arith) f.0.1 refl (rw (z, n) l) in
      once_held (weight (edge_number v e)) _ _ (potential (other_side v e) -ℤ potential (first_side v e)) once up down forth back
    where
      once_held : (w a b : ℕ) (d : ℤ) → steep ≡ 1 → d ≤ℤ pos w → neg_ℤ d ≤ℤ pos w → (0 < a → neg_ℤ d ≤ℤ neg_ℤ (pos w)) → (0 < b → d ≤ℤ neg_ℤ (pos w)) → IsHeld steep w a b d
      once_held w a b d once up down forth back =
          let same : steep * w ≡ w = rw once (omega arith) in
          record {
            within = omega (arith, ints, up, down, same);
            none = λ x y. omega (arith, ints, up, down);
            forth = λ l. (let h = forth l in omega (arith, ints, h));
            forth_more = λ l. (let h = forth (omega (arith, l)) in omega (arith, ints, h, same));
            back = λ l. (let h = back l in omega (arith, ints, h));
            back_more = λ l. (let h = back (omega (arith, l)) in omega (arith, ints, h, same));
          }

  -- ---- with steep arcs
  split_held : IsSplit steep (weight (edge_number v e)) → IsHeld steep (weight (edge_number v e)) (amount_of (flow (edge_number v e))) (amount_of (neg_ℤ (flow (edge_number v e)))) (potential (other_side v e) -ℤ potential (first_side v e))
  split_held f =
      let z = f.0.0 in
      let n = f.1 in
      let taken = steep_taken steep (weight (edge_number v e)) f in
      let up : (potential (other_side v e) -ℤ potential (first_side v e)) ≤ℤ pos (steep * weight (edge_number v e)) = forth_holds 4 (omega arith) taken refl (keeps 4 (omega arith) taken (rw (z, n) (nothing_less (arc_capacity v)))) in
      let down : neg_ℤ (potential (other_side v e) -ℤ potential (first_side v e)) ≤ℤ pos (steep * weight (edge_number v e)) = back_holds 6 (omega arith) taken refl (keeps 6 (omega arith) taken (rw (z, n) (nothing_less (arc_capacity v)))) in
      let none_up : amount_of (flow (edge_number v e)) ≡ 0 → (potential (other_side v e) -ℤ potential (first_side v e)) ≤ℤ pos (weight (edge_number v e)) = λ i. forth_holds 0 (omega arith) refl refl (rw (z, n) (omega (arith, i))) in
      let none_down : amount_of (neg_ℤ (flow (edge_number v e))) ≡ 0 → neg_ℤ (potential (other_side v e) -ℤ potential (first_side v e)) ≤ℤ pos (weight (edge_number v e)) = λ i. back_holds 2 (omega arith) refl refl (rw (z, n) (omega (arith, i))) in
      let forth : 0 < amount_of (flow (edge_number v e)) → neg_ℤ (potential (other_side v e) -ℤ potential (first_side v e)) ≤ℤ neg_ℤ (pos (weight (edge_number v e))) = λ l. back_holds 1 (omega arith) f.0.1 refl (rw (z, n) (omega (arith, l))) in
      let back : 0 < amount_of (neg_ℤ (flow (edge_number v e))) → (potential (other_side v e) -ℤ potential (first_side v e)) ≤ℤ neg_ℤ (pos (weight (edge_number v e))) = λ l. forth_holds 3 (omega arith) f.0.1 refl (rw (z, n) (omega (arith, l))) in
      let forth_more : 1 < amount_of (flow (edge_number v e)) → neg_ℤ (potential (other_side v e) -ℤ potential (first_side v e)) ≤ℤ neg_ℤ (pos (steep * weight (edge_number v e))) = λ l. back_holds 5 (omega arith) taken refl (rw (z, n) (omega (arith, l))) in
      let back_more : 1 < amount_of (neg_ℤ (flow (edge_number v e))) → (potential (other_side v e) -ℤ potential (first_side v e)) ≤ℤ neg_ℤ (pos (steep * weight (edge_number v e))) = λ l. forth_holds 7 (omega arith) taken refl (rw (z, n) (omega (arith, l))) in
      record {
        within = omega (arith, ints, up, down);
        none = λ x y. (let a = none_up x in let b = none_down y in omega (arith, ints, a, b));
        forth = λ l. (let h = forth l in omega (arith, ints, h));
        forth_more = λ l. (let h = forth_more l in omega (arith, ints, h));
        back = λ l. (let h = back l in omega (arith, ints, h));
        back_more = λ l. (let h = back_more l in omega (arith, ints, h));
      }

  pub flow_is_tight : IsTight steep (weight (edge_number v e)) (potential (other_side v e) -ℤ potential (first_side v e)) (flow (edge_number v e))
  flow_is_tight =
      let parts = amount_parts (flow (edge_number v e)) in
      held_tight steep (weight (edge_number v e)) (amount_of (flow (edge_number v e))) (amount_of (neg_ℤ (flow (edge_number v e)))) (potential (other_side v e) -ℤ potential (first_side v e)) (flow (edge_number v e)) parts.0 parts.1
      (elim (kinds steep (weight (edge_number v e))) [
        | inl f ↦ free_held f
        | inr (inl f) ↦ plain_held f
        | inr (inr f) ↦ split_held f
      ])

  -- near the start no flow is above the capacity of an arc
  pub flow_is_small : unsigned_abs (flow (edge_number v e)) ≤ arc_capacity v
  flow_is_small =
      elim (kinds steep (weight (edge_number v e))) [
        | inl f ↦ (let u = free_unsplit steep (weight (edge_number v e)) f in rw u at bounded)
        | inr (inl f) ↦ (let u = plain_unsplit steep (weight (edge_number v e)) f in rw u at bounded)
        | inr (inr f) ↦ (
            let z = f.0.0 in
            let n = f.1 in
            let taken = steep_taken steep (weight (edge_number v e)) f in
            let forth : 0 < arc_capacity v - (amount_of (flow (edge_number v e)) - 1) = rw (z, n) at (keeps 4 (omega arith) taken (rw (z, n) (nothing_less (arc_capacity v)))) in
            let back : 0 < arc_capacity v - (amount_of (neg_ℤ (flow (edge_number v e))) - 1) = rw (z, n) at (keeps 6 (omega arith) taken (rw (z, n) (nothing_less (arc_capacity v)))) in
            let parts = (amount_parts (flow (edge_number v e))).0 in
            omega (arith, ints, forth, back, parts))
      ]
