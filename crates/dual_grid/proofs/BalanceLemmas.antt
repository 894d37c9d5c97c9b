-- Once a grid is balanced, the flows across the edges of a cell sum to its residue.
use Rattle.std.proofs.Common.{◌≡◌, ℕ, ◌+◌, ◌-◌, ◌*◌, ◌/◌, ◌%◌, ◌<◌, ◌≤◌, ◌∙◌, sym, ap, ap₂, refl, arith, inl, inr, Bool, true, false}
use Rattle.std.specs.Prelude.{ℤ, pos, neg_ℤ, ◌+ℤ◌, ◌-ℤ◌, ◌==◌, ◌&&◌, if◌then◌else◌, unsigned_abs}
use Rattle.std.proofs.lemmas.Bool.{cases_Bool}
use Rattle.std.proofs.lemmas.Int.{ints}
use Rattle.std.proofs.lemmas.Nat.{div-mul-add, mod-mul-add}
use Rattle.raster_model.specs.declared.edge.Edge.{Edge}
use Rattle.raster_model.specs.declared.tiling.Window.{Window}
use Rattle.raster_model.specs.Sums.{Field, sum_grid, right_edge, down_edge}
use Rattle.raster_model.proofs.SumLemmas.{sum_grid-same, sum_grid-add}
use Rattle.flow_network.specs.Nets.{Shape, State}
use Rattle.flow_network.specs.Moves.{IsConserved, out_term, residual_out}
use Rattle.flow_network.proofs.PushLemmas.{residual_out-same}
use Rattle.raster_model.specs.Tiles.{width_of, height_of, IsRasterWindow}
use Rattle.wrapped_gradient.specs.Windows.{IsCellOf, IsEdgeOf, round}
use Rattle.wrapped_gradient.proofs.GradientLemmas.{right_edge_of, down_edge_of}
use Rattle.dual_grid.specs.Nodes.{node_at, first_side, other_side, rights_of, downs_of, edges_of, edge_number, edge_of}
use Rattle.dual_grid.specs.Starts.{supply_at, start_state}
use Rattle.dual_grid.specs.Grids.{amount_of, arc_capacity, capacity_of, is_taken, leads_forth, residual_at, start_residual, window_shape, window_state}
use Rattle.dual_grid.proofs.ArcLemmas.{kinds, place_is_arc, place_is_no_arc, place_tail}
use Rattle.dual_grid.proofs.FlowLemmas.{amount_is, amount_parts, amounts_small}
use Rattle.dual_grid.proofs.NodeLemmas.{first_right, first_down, other_right, other_down, node_below}
use Rattle.dual_grid.proofs.NumberLemmas.{edge_of_number}
use Rattle.dual_grid.proofs.EdgeLemmas.{number_below}
use Rattle.dual_grid.proofs.SumLemmas.{sum_below-parts, sum_below-rows, sum_below-eights, sum_grid-pick}
use Rattle.dual_grid.proofs.SideLemmas.{here_test, above_test, left_test}
use Rattle.sums_and_lists.specs.Sums.{sum_below, where_true}

-- what the arcs of the edge of a number add to what starts at a node
abbrev pub octet : Shape → State → ℕ → ℕ → ℤ
octet s f u n = out_term s f u (n * 8) +ℤ out_term s f u (n * 8 + 1) +ℤ out_term s f u (n * 8 + 2) +ℤ out_term s f u (n * 8 + 3) +ℤ out_term s f u (n * 8 + 4) +ℤ out_term s f u (n * 8 + 5) +ℤ out_term s f u (n * 8 + 6) +ℤ out_term s f u (n * 8 + 7)

-- the flow across an edge, seen from a node: out of it where the node is the first side, into it where it is the other
abbrev share : Window → (ℕ → ℤ) → ℕ → Edge → ℤ
share v flow u e = where_true (first_side v e == u) (flow (edge_number v e)) +ℤ where_true (other_side v e == u) (neg_ℤ (flow (edge_number v e)))

-- ---- what can leave each side of an edge: the capacity less the flow, and the capacity more the flow
abbrev pub leaving : ℕ → Bool → Bool → ℤ → ℤ
leaving c t u q = where_true t (pos c -ℤ q) +ℤ where_true u (pos c +ℤ q)

-- eight terms, by the side where each starts
eight_terms : (c : ℕ) (t u : Bool) (a b d e i j x y : ℕ) (q : ℤ) → pos a +ℤ pos e +ℤ pos i +ℤ pos y ≡ pos c -ℤ q → pos b +ℤ pos d +ℤ pos j +ℤ pos x ≡ pos c +ℤ q → where_true t (pos a) +ℤ where_true u (pos b) +ℤ where_true u (pos d) +ℤ where_true t (pos e) +ℤ where_true t (pos i) +ℤ where_true u (pos j) +ℤ where_true u (pos x) +ℤ where_true t (pos y) ≡ leaving c t u q
eight_terms c true true a b d e i j x y q p r = omega (arith, ints, p, r)
eight_terms c true false a b d e i j x y q p r = omega (arith, ints, p, r)
eight_terms c false true a b d e i j x y q p r = omega (arith, ints, p, r)
eight_terms c false false a b d e i j x y q p r = omega (arith, ints, p, r)

-- one arc's term, by the test that there is one, and where it starts
abbrev term : ℕ → ℕ → ℕ → ℤ → Bool → Bool → ℕ → ℤ
term most steep w q t u k = where_true (is_taken steep w k && (if leads_forth k then t else u)) (pos (residual_at most steep w q k))

two_terms : (most : ℕ) (t u : Bool) (a b : ℕ) (q : ℤ) → pos a ≡ pos most -ℤ q → pos b ≡ pos most +ℤ q → where_true t (pos a) +ℤ pos 0 +ℤ where_true u (pos b) +ℤ pos 0 +ℤ pos 0 +ℤ pos 0 +ℤ pos 0 +ℤ pos 0 ≡ leaving most t u q
two_terms most true true a b q c d = omega (arith, ints, c, d)
two_terms most true false a b q c d = omega (arith, ints, c, d)
two_terms most false true a b q c d = omega (arith, ints, c, d)
two_terms most false false a b q c d = omega (arith, ints, c, d)

four_terms : (most : ℕ) (t u : Bool) (a b c d : ℕ) (q : ℤ) → pos a +ℤ pos d ≡ pos most -ℤ q → pos b +ℤ pos c ≡ pos most +ℤ q → where_true t (pos a) +ℤ where_true u (pos b) +ℤ where_true u (pos c) +ℤ where_true t (pos d) +ℤ pos 0 +ℤ pos 0 +ℤ pos 0 +ℤ pos 0 ≡ leaving most t u q
four_terms most true true a b c d q p r = omega (arith, ints, p, r)
four_terms most true false a b c d q p r = omega (arith, ints, p, r)
four_terms most false true a b c d q p r = omega (arith, ints, p, r)
four_terms most false false a b c d q p r = omega (arith, ints, p, r)

terms_leave : (most steep w : ℕ) (q : ℤ) (t u : Bool) → unsigned_abs q ≤ capacity_of most steep w → term most steep w q t u 0 +ℤ term most steep w q t u 1 +ℤ term most steep w q t u 2 +ℤ term most steep w q t u 3 +ℤ term most steep w q t u 4 +ℤ term most steep w q t u 5 +ℤ term most steep w q t u 6 +ℤ term most steep w q t u 7 ≡ leaving (capacity_of most steep w) t u q
terms_leave most steep w q t u l =
    elim (kinds steep w) [
      | inl f ↦ (
          let z = f.0 in
          let none = f.1 in
          let small : unsigned_abs q ≤ most = rw none at l in
          let forth = amount_is (pos most -ℤ q) (omega (arith, ints, small)) in
          let back = amount_is (pos most -ℤ neg_ℤ q) (omega (arith, ints, small)) in
          rw (z, none) (two_terms most t u (amount_of (pos most -ℤ q)) (amount_of (pos most -ℤ neg_ℤ q)) q forth (omega (arith, ints, back))))
      | inr (inl f) ↦ (
          let z = f.0.0 in
          let some = f.0.1 in
          let n = f.1 in
          let low : unsigned_abs q ≤ most = rw (some, n) at l in
          let parts = (amount_parts q).0 in
          let small = amounts_small most q low in
          rw (z, some, n) (four_terms most t u (most - amount_of q) (amount_of q) (most - amount_of (neg_ℤ q)) (amount_of (neg_ℤ q)) q (omega (arith, ints, parts, small)) (omega (arith, ints, parts, small))))
      | inr (inr f) ↦ (
          let z = f.0.0 in
          let some = f.0.1 in
          let n = f.1 in
          let low : unsigned_abs q ≤ most + 1 = rw (some, n) at l in
          let parts = (amount_parts q).0 in
          let small = amounts_small (most + 1) q low in
          rw (z, some, n) (eight_terms (most + 1) t u (1 - amount_of q) (1 - (1 - amount_of q)) (1 - amount_of (neg_ℤ q)) (1 - (1 - amount_of (neg_ℤ q))) (most - (amount_of q - 1)) (amount_of q - 1) (most - (amount_of (neg_ℤ q) - 1)) (amount_of (neg_ℤ q) - 1) q (omega (arith, ints, parts, small)) (omega (arith, ints, parts, small))))
    ]

module _ (v : Window) (little : IsRasterWindow v) (steep : ℕ) (weight : ℕ → ℕ) where
  -- what starts at a node, edge by edge
  by_edges : (f : State) (u : ℕ) → residual_out (window_shape v steep weight) f u ≡ sum_grid (width_of v - 1) (height_of v) (λ i j. octet (window_shape v steep weight) f u (edge_number v (right_edge (v.x0 + i) (v.y0 + j)))) +ℤ sum_grid (width_of v) (height_of v - 1) (λ i j. octet (window_shape v steep weight) f u (edge_number v (down_edge (v.x0 + i) (v.y0 + j))))
  by_edges f u =
      let rights : rights_of v ≡ height_of v * (width_of v - 1) = omega arith in
      let downs : downs_of v ≡ (height_of v - 1) * width_of v = omega arith in
      sum_below-eights (edges_of v) (out_term (window_shape v steep weight) f u)
      ∙ sum_below-parts (rights_of v) (downs_of v) (octet (window_shape v steep weight) f u)
      ∙ ap₂ (λ (y z : ℤ). y +ℤ z)
      (ap (λ (n : ℕ). sum_below n (octet (window_shape v steep weight) f u)) rights
      ∙ sum_below-rows (width_of v - 1) (height_of v) (octet (window_shape v steep weight) f u)
      ∙ sum_grid-same (width_of v - 1) (height_of v) (λ i j. octet (window_shape v steep weight) f u (j * (width_of v - 1) + i)) (λ i j. octet (window_shape v steep weight) f u (edge_number v (right_edge (v.x0 + i) (v.y0 + j)))) (λ i j l m. ap (octet (window_shape v steep weight) f u) (right_place i j)))
      (ap (λ (n : ℕ). sum_below n (λ i. octet (window_shape v steep weight) f u (rights_of v + i))) downs
      ∙ sum_below-rows (width_of v) (height_of v - 1) (λ i. octet (window_shape v steep weight) f u (rights_of v + i))
      ∙ sum_grid-same (width_of v) (height_of v - 1) (λ i j. octet (window_shape v steep weight) f u (rights_of v + (j * width_of v + i))) (λ i j. octet (window_shape v steep weight) f u (edge_number v (down_edge (v.x0 + i) (v.y0 + j)))) (λ i j l m. ap (octet (window_shape v steep weight) f u) (down_place i j)))
    where
      right_place : (i j : ℕ) → j * (width_of v - 1) + i ≡ edge_number v (right_edge (v.x0 + i) (v.y0 + j))
      right_place i j =
          let x : v.x0 + i - v.x0 ≡ i = omega arith in
          let y : v.y0 + j - v.y0 ≡ j = omega arith in
          rw (x, y) refl

      down_place : (i j : ℕ) → rights_of v + (j * width_of v + i) ≡ edge_number v (down_edge (v.x0 + i) (v.y0 + j))
      down_place i j =
          let x : v.x0 + i - v.x0 ≡ i = omega arith in
          let y : v.y0 + j - v.y0 ≡ j = omega arith in
          rw (x, y) refl

  right_in : (i j : ℕ) → i < width_of v - 1 → j < height_of v → IsEdgeOf v (right_edge (v.x0 + i) (v.y0 + j))
  right_in i j l m =
      let a = little.across in
      let b = little.along in
      right_edge_of v (v.x0 + i) (v.y0 + j) (omega arith) (omega (arith, l, a)) (omega arith) (omega (arith, m, b))

  down_in : (i j : ℕ) → i < width_of v → j < height_of v - 1 → IsEdgeOf v (down_edge (v.x0 + i) (v.y0 + j))
  down_in i j l m =
      let a = little.across in
      let b = little.along in
      down_edge_of v (v.x0 + i) (v.y0 + j) (omega arith) (omega (arith, l, a)) (omega arith) (omega (arith, m, b))

  -- ---- with what flows
  module _ (flow excess potential : ℕ → ℤ) (within : (n : ℕ) → unsigned_abs (flow n) ≤ capacity_of (arc_capacity v) steep (weight n)) where
    term_at : (u n k : ℕ) → n < edges_of v → k < 8 → out_term (window_shape v steep weight) (window_state v steep weight flow excess potential) u (n * 8 + k) ≡ term (arc_capacity v) steep (weight n) (flow n) (first_side v (edge_of v n) == u) (other_side v (edge_of v n) == u) k
    term_at u n k l m =
        elim (cases_Bool (is_taken steep (weight n) k)) [
          | inl t ↦ (
              let arc = place_is_arc v steep weight n k l m t in
              let tail = place_tail v steep weight n k m arc in
              rw (arc, t) (ap₂ (λ (i : ℕ) (r : ℕ). where_true (i == u) (pos r)) tail residual ∙ chosen (leads_forth k) (first_side v (edge_of v n)) (other_side v (edge_of v n)) (residual_at (arc_capacity v) steep (weight n) (flow n) k)))
          | inr t ↦ (
              let none : (window_shape v steep weight).is_arc (n * 8 + k) ≡ false = place_is_no_arc v steep weight n k l m t in
              rw (none, t) refl)
        ]
      where
        residual : residual_at (arc_capacity v) steep (weight ((n * 8 + k) / 8)) (flow ((n * 8 + k) / 8)) ((n * 8 + k) % 8) ≡ residual_at (arc_capacity v) steep (weight n) (flow n) k
        residual = ap₂ (λ (i j : ℕ). residual_at (arc_capacity v) steep (weight i) (flow i) j) (div-mul-add n 8 k m) (mod-mul-add n 8 k m)

        chosen : (b : Bool) (i j r : ℕ) → where_true ((if b then i else j) == u) (pos r) ≡ where_true (if b then i == u else j == u) (pos r)
        chosen true i j r = refl
        chosen false i j r = refl

    -- what can leave a node across an edge
    pub octet_leaves : (u n : ℕ) → n < edges_of v → octet (window_shape v steep weight) (window_state v steep weight flow excess potential) u n ≡ leaving (capacity_of (arc_capacity v) steep (weight n)) (first_side v (edge_of v n) == u) (other_side v (edge_of v n) == u) (flow n)
    octet_leaves u n l =
        let zero_more : n * 8 + 0 ≡ n * 8 = omega arith in
        sums _ _ _ _ _ _ _ _ _ _ _ _ _ _ _ _ _
        (ap (λ (a : ℕ). out_term (window_shape v steep weight) (window_state v steep weight flow excess potential) u a) (sym zero_more) ∙ term_at u n 0 l (omega arith)) (term_at u n 1 l (omega arith)) (term_at u n 2 l (omega arith)) (term_at u n 3 l (omega arith)) (term_at u n 4 l (omega arith)) (term_at u n 5 l (omega arith)) (term_at u n 6 l (omega arith)) (term_at u n 7 l (omega arith))
        (terms_leave (arc_capacity v) steep (weight n) (flow n) (first_side v (edge_of v n) == u) (other_side v (edge_of v n) == u) (within n))
      where
        sums : (a b c d e f g h i j k l m n o p z : ℤ) → a ≡ i → b ≡ j → c ≡ k → d ≡ l → e ≡ m → f ≡ n → g ≡ o → h ≡ p → i +ℤ j +ℤ k +ℤ l +ℤ m +ℤ n +ℤ o +ℤ p ≡ z → a +ℤ b +ℤ c +ℤ d +ℤ e +ℤ f +ℤ g +ℤ h ≡ z
        sums a b c d e f g h i j k l m n o p z q r s t u v w x y = rw (q, r, s, t, u, v, w, x) y

  -- at the start nothing flows
  start_leaves : (r : Field ℤ) (u : ℕ) → residual_out (window_shape v steep weight) (start_state (start_residual v steep weight) r v) u ≡ residual_out (window_shape v steep weight) (window_state v steep weight (λ n. pos 0) (λ n. pos 0) (λ n. pos 0)) u
  start_leaves r u = residual_out-same (window_shape v steep weight) (window_state v steep weight (λ n. pos 0) (λ n. pos 0) (λ n. pos 0)) (start_state (start_residual v steep weight) r v) u (λ a arc. refl)

  module _ (r : Field ℤ) (flow excess potential : ℕ → ℤ) (within : (n : ℕ) → unsigned_abs (flow n) ≤ capacity_of (arc_capacity v) steep (weight n)) (conserved : IsConserved (window_shape v steep weight) (start_state (start_residual v steep weight) r v) (window_state v steep weight flow excess potential)) where
    -- since the start the flow across an edge left what starts at its first side, and came to the other
    moved : (e : Edge) → IsEdgeOf v e → (u : ℕ) → octet (window_shape v steep weight) (window_state v steep weight (λ n. pos 0) (λ n. pos 0) (λ n. pos 0)) u (edge_number v e) ≡ octet (window_shape v steep weight) (window_state v steep weight flow excess potential) u (edge_number v e) +ℤ share v flow u e
    moved e is u =
        let n = edge_number v e in
        let l = number_below v e is in
        octet_leaves (λ n. pos 0) (λ n. pos 0) (λ n. pos 0) (λ n. omega (arith, ints)) u n l
        ∙ split (capacity_of (arc_capacity v) steep (weight n)) (first_side v (edge_of v n) == u) (other_side v (edge_of v n) == u) (flow n)
        ∙ ap₂ (λ (y z : ℤ). y +ℤ z) (sym (octet_leaves flow excess potential within u n l))
        (ap (λ (i : Edge). where_true (first_side v i == u) (flow n) +ℤ where_true (other_side v i == u) (neg_ℤ (flow n))) (edge_of_number v e is))
      where
        split : (c : ℕ) (t u : Bool) (q : ℤ) → leaving c t u (pos 0) ≡ leaving c t u q +ℤ (where_true t q +ℤ where_true u (neg_ℤ q))
        split c true true q = omega (arith, ints)
        split c true false q = omega (arith, ints)
        split c false true q = omega (arith, ints)
        split c false false q = omega (arith, ints)

    -- what a node had at the start is what flows out of it across the edges
    shares : (u : ℕ) → u < (window_shape v steep weight).nodes → excess u ≡ pos 0 → supply_at r v u ≡ sum_grid (width_of v - 1) (height_of v) (λ i j. share v flow u (right_edge (v.x0 + i) (v.y0 + j))) +ℤ sum_grid (width_of v) (height_of v - 1) (λ i j. share v flow u (down_edge (v.x0 + i) (v.y0 + j)))
    shares u l empty =
        let s = window_shape v steep weight in
        let f = window_state v steep weight flow excess potential in
        let g = window_state v steep weight (λ n. pos 0) (λ n. pos 0) (λ n. pos 0) in
        let right = λ (h : State) (i j : ℕ). octet s h u (edge_number v (right_edge (v.x0 + i) (v.y0 + j))) in
        let down = λ (h : State) (i j : ℕ). octet s h u (edge_number v (down_edge (v.x0 + i) (v.y0 + j))) in
        let right_share = λ (i j : ℕ). share v flow u (right_edge (v.x0 + i) (v.y0 + j)) in
        let down_share = λ (i j : ℕ). share v flow u (down_edge (v.x0 + i) (v.y0 + j)) in
        let rights : sum_grid (width_of v - 1) (height_of v) (right g) ≡ sum_grid (width_of v - 1) (height_of v) (right f) +ℤ sum_grid (width_of v - 1) (height_of v) right_share =
        sum_grid-same (width_of v - 1) (height_of v) (right g) (λ i j. right f i j +ℤ right_share i j) (λ i j p q. moved (right_edge (v.x0 + i) (v.y0 + j)) (right_in i j p q) u) ∙ sum_grid-add (width_of v - 1) (height_of v) (right f) right_share in
        let downs : sum_grid (width_of v) (height_of v - 1) (down g) ≡ sum_grid (width_of v) (height_of v - 1) (down f) +ℤ sum_grid (width_of v) (height_of v - 1) down_share =
        sum_grid-same (width_of v) (height_of v - 1) (down g) (λ i j. down f i j +ℤ down_share i j) (λ i j p q. moved (down_edge (v.x0 + i) (v.y0 + j)) (down_in i j p q) u) ∙ sum_grid-add (width_of v) (height_of v - 1) (down f) down_share in
        balance_of (f.excess u) (sum_grid (width_of v - 1) (height_of v) (right g)) (sum_grid (width_of v) (height_of v - 1) (down g)) (residual_out s f u) (residual_out s (start_state (start_residual v steep weight) r v) u) (sum_grid (width_of v - 1) (height_of v) (right f)) (sum_grid (width_of v) (height_of v - 1) (down f)) (sum_grid (width_of v - 1) (height_of v) right_share) (sum_grid (width_of v) (height_of v - 1) down_share) (supply_at r v u) (conserved.nodes u l) empty (by_edges f u) (start_leaves r u ∙ by_edges g u) rights downs
      where
        balance_of : (x b c o p a d i j z : ℤ) → x -ℤ o ≡ z -ℤ p → x ≡ pos 0 → o ≡ a +ℤ d → p ≡ b +ℤ c → b ≡ a +ℤ i → c ≡ d +ℤ j → z ≡ i +ℤ j
        balance_of x b c o p a d i j z e y m n k l = omega (arith, ints, e, y, m, n, k, l)

    -- round a cell the flows sum to minus what it had
    pub cell_balance : (x y : ℕ) → IsCellOf v x y → excess (node_at v x y) ≡ pos 0 → round (λ e. flow (edge_number v e)) x y ≡ neg_ℤ (supply_at r v (node_at v x y))
    cell_balance x y c empty =
        let u = node_at v x y in
        let across = λ (e : Edge). flow (edge_number v e) in
        let right = λ (i j : ℕ). right_edge (v.x0 + i) (v.y0 + j) in
        let down = λ (i j : ℕ). down_edge (v.x0 + i) (v.y0 + j) in
        let out_right : sum_grid (width_of v - 1) (height_of v) (λ i j. where_true (first_side v (right i j) == u) (across (right i j))) ≡ across (right (x - v.x0) (y + 1 - v.y0)) =
        sum_grid-pick (width_of v - 1) (height_of v) (x - v.x0) (y + 1 - v.y0) (λ i j. first_side v (right i j) == u) (λ i j. across (right i j)) (omega (arith, c)) (omega (arith, c))
        (λ i j p q. ap (λ (n : ℕ). n == u) (first_right v (right i j) refl) ∙ above_test v x y c i j) in
        let in_right : sum_grid (width_of v - 1) (height_of v) (λ i j. where_true (other_side v (right i j) == u) (neg_ℤ (across (right i j)))) ≡ neg_ℤ (across (right (x - v.x0) (y - v.y0))) =
        sum_grid-pick (width_of v - 1) (height_of v) (x - v.x0) (y - v.y0) (λ i j. other_side v (right i j) == u) (λ i j. neg_ℤ (across (right i j))) (omega (arith, c)) (omega (arith, c))
        (λ i j p q. ap (λ (n : ℕ). n == u) (other_right v (right i j) refl) ∙ here_test v x y c i j) in
        let out_down : sum_grid (width_of v) (height_of v - 1) (λ i j. where_true (first_side v (down i j) == u) (across (down i j))) ≡ across (down (x - v.x0) (y - v.y0)) =
        sum_grid-pick (width_of v) (height_of v - 1) (x - v.x0) (y - v.y0) (λ i j. first_side v (down i j) == u) (λ i j. across (down i j)) (omega (arith, c)) (omega (arith, c))
        (λ i j p q. ap (λ (n : ℕ). n == u) (first_down v (down i j) refl) ∙ here_test v x y c i j) in
        let in_down : sum_grid (width_of v) (height_of v - 1) (λ i j. where_true (other_side v (down i j) == u) (neg_ℤ (across (down i j)))) ≡ neg_ℤ (across (down (x + 1 - v.x0) (y - v.y0))) =
        sum_grid-pick (width_of v) (height_of v - 1) (x + 1 - v.x0) (y - v.y0) (λ i j. other_side v (down i j) == u) (λ i j. neg_ℤ (across (down i j))) (omega (arith, c)) (omega (arith, c))
        (λ i j p q. ap (λ (n : ℕ). n == u) (other_down v (down i j) refl) ∙ left_test v x y c i j) in
        let all = shares u (let b = node_below v x y in omega (arith, b)) empty in
        let rights = sum_grid-add (width_of v - 1) (height_of v) (λ i j. where_true (first_side v (right i j) == u) (across (right i j))) (λ i j. where_true (other_side v (right i j) == u) (neg_ℤ (across (right i j)))) in
        let downs = sum_grid-add (width_of v) (height_of v - 1) (λ i j. where_true (first_side v (down i j) == u) (across (down i j))) (λ i j. where_true (other_side v (down i j) == u) (neg_ℤ (across (down i j)))) in
        let column : v.x0 + (x - v.x0) ≡ x = omega (arith, c) in
        let next_column : v.x0 + (x + 1 - v.x0) ≡ x + 1 = omega (arith, c) in
        let row : v.y0 + (y - v.y0) ≡ y = omega (arith, c) in
        let next_row : v.y0 + (y + 1 - v.y0) ≡ y + 1 = omega (arith, c) in
        total (supply_at r v u) (sum_grid (width_of v - 1) (height_of v) (λ i j. share v flow u (right i j))) (sum_grid (width_of v) (height_of v - 1) (λ i j. share v flow u (down i j)))
        (sum_grid (width_of v - 1) (height_of v) (λ i j. where_true (first_side v (right i j) == u) (across (right i j)))) (sum_grid (width_of v - 1) (height_of v) (λ i j. where_true (other_side v (right i j) == u) (neg_ℤ (across (right i j)))))
        (sum_grid (width_of v) (height_of v - 1) (λ i j. where_true (first_side v (down i j) == u) (across (down i j)))) (sum_grid (width_of v) (height_of v - 1) (λ i j. where_true (other_side v (down i j) == u) (neg_ℤ (across (down i j)))))
        (across (right_edge x y)) (across (right_edge x (y + 1))) (across (down_edge x y)) (across (down_edge (x + 1) y)) all rights downs
        (out_right ∙ ap₂ (λ (a b : ℕ). across (right_edge a b)) column next_row)
        (in_right ∙ ap₂ (λ (a b : ℕ). neg_ℤ (across (right_edge a b))) column row)
        (out_down ∙ ap₂ (λ (a b : ℕ). across (down_edge a b)) column row)
        (in_down ∙ ap₂ (λ (a b : ℕ). neg_ℤ (across (down_edge a b))) next_column row)
      where
        total : (z r d a b i j top bottom left right : ℤ) → z ≡ r +ℤ d → r ≡ a +ℤ b → d ≡ i +ℤ j → a ≡ bottom → b ≡ neg_ℤ top → i ≡ left → j ≡ neg_ℤ right → top +ℤ right -ℤ bottom -ℤ left ≡ neg_ℤ z
        total z r d a b i j top bottom left right p q k l m n o = omega (arith, ints, p, q, k, l, m, n, o)
