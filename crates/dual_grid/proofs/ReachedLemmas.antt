-- A grid in which nothing had flowed, after flows that go together with potentials: flow was neither made nor lost, reduced costs are at least 0, and residuals are near those of the start.
use Rattle.std.proofs.Common.{◌≡◌, ℕ, zero, suc, ◌+◌, ◌-◌, ◌*◌, ◌/◌, ◌%◌, ◌<◌, ◌≤◌, ◌∙◌, sym, ap, ap₂, refl, arith, inl, inr, ◌⊎◌, Bool, true, false, List, get_or, length, ◌^◌, subst}
use Rattle.std.specs.Prelude.{ℤ, pos, negsuc, neg_ℤ, ◌+ℤ◌, ◌-ℤ◌, ◌≤ℤ◌, ◌<ℤ◌, ◌==◌, if◌then◌else◌, nat_lt, unsigned_abs}
use Rattle.std.proofs.lemmas.Bool.{cases_Bool, cases_lt}
use Rattle.std.proofs.lemmas.Int.{ints}
use Rattle.std.proofs.lemmas.List.{get_or_past}
use Rattle.std.proofs.lemmas.Nat.{mod_below}
use Rattle.raster_model.specs.declared.tiling.Window.{Window}
use Rattle.raster_model.specs.Tiles.{IsRasterWindow}
use Rattle.flow_network.specs.Nets.{State, IsArc, HasReducedCosts, positive_part, reduced_cost, total_excess}
use Rattle.flow_network.specs.Moves.{IsConserved, out_term, residual_out}
use Rattle.flow_network.specs.Lists.{HasRoom}
use Rattle.flow_network.proofs.CallerLemmas.{term-le}
use Rattle.flow_network.proofs.PushLemmas.{residual_out-same}
use Rattle.dual_grid.specs.declared.grid.DualGrid.{DualGrid}
use Rattle.dual_grid.specs.Answers.{StaysNearStart}
use Rattle.dual_grid.specs.Building.{IsHeldAt, IsHeldBy, leaves, positive_sum}
use Rattle.dual_grid.specs.Grids.{amount_of, arc_capacity, capacity_of, carried, cost_in_place, is_split, is_taken, leads_forth, residual_at, start_residual, twin_place, window_shape, window_state}
use Rattle.dual_grid.specs.Layout.{AreWithinCapacity, flat_state_by, number_or_zero, state_by, weight_in}
use Rattle.dual_grid.specs.Problems.{AreSmallNumbers}
use Rattle.dual_grid.specs.Views.{grid_shape, grid_start, grid_state}
use Rattle.dual_grid.specs.Nodes.{cells_of, edge_of, edges_of, first_side, other_side}
use Rattle.dual_grid.proofs.ArcLemmas.{IsFree, IsPlain, IsSplit, arc_below, arc_taken, edge_below_end, eight_places, free_place, free_unsplit, kinds, plain_place, plain_unsplit, steep_taken, tail_is, twin_at_place, twin_edge, grid_is_network}
use Rattle.dual_grid.proofs.BalanceLemmas.{leaving, octet, octet_leaves}
use Rattle.dual_grid.proofs.FlowLemmas.{IsAny, IsFirst, amount_is, amount_parts, amounts_small, each_place}
use Rattle.dual_grid.proofs.EdgeLemmas.{few_cells}
use Rattle.dual_grid.proofs.MakeLemmas.{has_room}
use Rattle.dual_grid.proofs.NodeLemmas.{first_below, other_below}
use Rattle.dual_grid.proofs.SumLemmas.{sum_below-eights}
use Rattle.sums_and_lists.specs.Sums.{sum_below, where_true}
use Rattle.sums_and_lists.proofs.SumLemmas.{same_tests, sum_below-add, sum_below-more, sum_below-none, sum_below-same, sum_below-swap, sum_below-two, sum_below-zeros}

-- ---- an arc and its twin keep their capacity in sum
abbrev IsPaired : ℕ → ℕ → ℕ → ℤ → ℕ → Type 0
IsPaired most steep w q k = residual_at most steep w q k + residual_at most steep w q (twin_place w k) ≡ residual_at most steep w (pos 0) k + residual_at most steep w (pos 0) (twin_place w k)

module _ (most steep w : ℕ) (q : ℤ) where
  free_pair : IsFree w → unsigned_abs q ≤ most → (k : ℕ) → (k ≡ 0) ⊎ (k ≡ 2) → IsPaired most steep w q k
  free_pair f l k o =
      let z = f.0 in
      let forth = amount_is (pos most -ℤ q) (omega (arith, ints, l)) in
      let back = amount_is (pos most -ℤ neg_ℤ q) (omega (arith, ints, l)) in
      elim o [
        | inl e ↦ rw (e, z) (sums _ _ (amount_of (pos most -ℤ pos 0)) (amount_of (pos most -ℤ neg_ℤ (pos 0))) q forth back (amount_is (pos most -ℤ pos 0) (omega (arith, ints))) (amount_is (pos most -ℤ neg_ℤ (pos 0)) (omega (arith, ints))))
        | inr e ↦ rw (e, z) (turned _ _ (amount_of (pos most -ℤ neg_ℤ (pos 0))) (amount_of (pos most -ℤ pos 0)) q forth back (amount_is (pos most -ℤ neg_ℤ (pos 0)) (omega (arith, ints))) (amount_is (pos most -ℤ pos 0) (omega (arith, ints))))
      ]
    where
      sums : (a b c d : ℕ) (q : ℤ) → pos a ≡ pos most -ℤ q → pos b ≡ pos most -ℤ neg_ℤ q → pos c ≡ pos most -ℤ pos 0 → pos d ≡ pos most -ℤ neg_ℤ (pos 0) → a + b ≡ c + d
      sums a b c d q h i j k = omega (arith, ints, h, i, j, k)

      turned : (a b c d : ℕ) (q : ℤ) → pos a ≡ pos most -ℤ q → pos b ≡ pos most -ℤ neg_ℤ q → pos c ≡ pos most -ℤ neg_ℤ (pos 0) → pos d ≡ pos most -ℤ pos 0 → b + a ≡ c + d
      turned a b c d q h i j k = omega (arith, ints, h, i, j, k)

  plain_pair : IsPlain steep w → unsigned_abs q ≤ most → (k : ℕ) → IsFirst k → IsPaired most steep w q k
  plain_pair f l k o =
      let y = f.0.0 in
      let n = f.1 in
      let small = amounts_small most q l in
      elim o [
        | inl e ↦ rw (e, y, n) (omega (arith, small))
        | inr (inl e) ↦ rw (e, y, n) (omega (arith, small))
        | inr (inr (inl e)) ↦ rw (e, y, n) (omega (arith, small))
        | inr (inr (inr e)) ↦ rw (e, y, n) (omega (arith, small))
      ]

  split_pair : IsSplit steep w → unsigned_abs q ≤ most + 1 → (k : ℕ) → IsAny k → IsPaired most steep w q k
  split_pair f l =
      let y = f.0.0 in
      let n = f.1 in
      let small = amounts_small (most + 1) q l in
      each_place (IsPaired most steep w q) (rw (y, n) (omega (arith, small))) (rw (y, n) (omega (arith, small))) (rw (y, n) (omega (arith, small))) (rw (y, n) (omega (arith, small))) (rw (y, n) (omega (arith, small))) (rw (y, n) (omega (arith, small))) (rw (y, n) (omega (arith, small))) (rw (y, n) (omega (arith, small)))

  pub pair_kept : (k : ℕ) → k < 8 → is_taken steep w k ≡ true → unsigned_abs q ≤ capacity_of most steep w → IsPaired most steep w q k
  pair_kept k below t l =
      elim (kinds steep w) [
        | inl f ↦ free_pair f (let u = free_unsplit steep w f in rw u at l) k (free_place steep w f k t)
        | inr (inl f) ↦ plain_pair f (let u = plain_unsplit steep w f in rw u at l) k (plain_place steep w f k t)
        | inr (inr f) ↦ split_pair f (let u = steep_taken steep w f in rw u at l) k (eight_places k below)
      ]

-- ---- a residual differs from that at the start by no more than what flows
near_amount : (m : ℕ) (q z : ℤ) → unsigned_abs z ≤ unsigned_abs q → (amount_of (pos m -ℤ z) ≤ amount_of (pos m -ℤ pos 0) + unsigned_abs q) × (amount_of (pos m -ℤ pos 0) ≤ amount_of (pos m -ℤ z) + unsigned_abs q)
near_amount m q z l =
    let p = amount_parts (pos m -ℤ z) in
    let s = amount_is (pos m -ℤ pos 0) (omega (arith, ints)) in
    elim p.1 [
      | inl e ↦ (omega (arith, ints, p.0, s, e, l), omega (arith, ints, p.0, s, e, l))
      | inr e ↦ (omega (arith, ints, p.0, s, e, l), omega (arith, ints, p.0, s, e, l))
    ]

module _ (most steep w : ℕ) (q : ℤ) where
  abbrev IsNear : ℕ → Type 0
  IsNear k = (residual_at most steep w q k ≤ residual_at most steep w (pos 0) k + unsigned_abs q) × (residual_at most steep w (pos 0) k ≤ residual_at most steep w q k + unsigned_abs q)

  free_near : (b : Bool) → (amount_of (pos most -ℤ (if b then q else neg_ℤ q)) ≤ amount_of (pos most -ℤ (if b then pos 0 else neg_ℤ (pos 0))) + unsigned_abs q) × (amount_of (pos most -ℤ (if b then pos 0 else neg_ℤ (pos 0))) ≤ amount_of (pos most -ℤ (if b then q else neg_ℤ q)) + unsigned_abs q)
  free_near true = near_amount most q q (omega arith)
  free_near false = near_amount most q (neg_ℤ q) (omega (arith, ints))

  carried_near : (b : Bool) → ((if b then amount_of q else amount_of (neg_ℤ q)) ≤ unsigned_abs q) × ((if b then amount_of (pos 0) else amount_of (neg_ℤ (pos 0))) ≡ 0)
  carried_near true = ((amounts_small (unsigned_abs q) q (omega arith)).0, refl)
  carried_near false = ((amounts_small (unsigned_abs q) q (omega arith)).1, refl)

  plain_near : (e : Bool) (n o d : ℕ) → n ≤ d → o ≡ 0 → ((if e then most - n else n) ≤ (if e then most - o else o) + d) × ((if e then most - o else o) ≤ (if e then most - n else n) + d)
  plain_near true n o d l z = (omega (arith, l, z), omega (arith, l, z))
  plain_near false n o d l z = (omega (arith, l, z), omega (arith, l, z))

  split_near : (b e : Bool) (n o d : ℕ) → n ≤ d → o ≡ 0 → ((if b then (if e then 1 - n else 1 - (1 - n)) else if e then most - (n - 1) else n - 1) ≤ (if b then (if e then 1 - o else 1 - (1 - o)) else if e then most - (o - 1) else o - 1) + d) × ((if b then (if e then 1 - o else 1 - (1 - o)) else if e then most - (o - 1) else o - 1) ≤ (if b then (if e then 1 - n else 1 - (1 - n)) else if e then most - (n - 1) else n - 1) + d)
  split_near true true n o d l z = (omega (arith, l, z), omega (arith, l, z))
  split_near true false n o d l z = (omega (arith, l, z), omega (arith, l, z))
  split_near false true n o d l z = (omega (arith, l, z), omega (arith, l, z))
  split_near false false n o d l z = (omega (arith, l, z), omega (arith, l, z))

  pub near_place : (k : ℕ) → IsNear k
  near_place k =
      let c = carried_near (nat_lt (k % 4) 2) in
      elim (cases_Bool (w == 0)) [
        | inl y ↦ rw y (free_near (leads_forth k))
        | inr y ↦ elim (cases_Bool (nat_lt 1 steep)) [
          | inl t ↦ rw (y, t) (split_near (nat_lt k 4) (k % 2 == 0) (carried q k) (carried (pos 0) k) (unsigned_abs q) c.0 c.1)
          | inr t ↦ rw (y, t) (plain_near (k % 2 == 0) (carried q k) (carried (pos 0) k) (unsigned_abs q) c.0 c.1)
        ]
      ]

-- ---- where a difference of potentials is held, an arc with capacity left costs no less than the difference in its direction
abbrev CostsEnough : ℕ → ℕ → ℕ → ℤ → ℤ → ℕ → Type 0
CostsEnough most steep w d q k = 0 < residual_at most steep w q k → (if leads_forth k then d else neg_ℤ d) ≤ℤ cost_in_place steep w k

module _ (most steep w : ℕ) (some : 1 ≤ steep) (d q : ℤ) (h : IsHeldBy steep w d q) where
  free_enough : IsFree w → (k : ℕ) → (k ≡ 0) ⊎ (k ≡ 2) → CostsEnough most steep w d q k
  free_enough f k o =
      let none = f.2 in
      let flat : steep * w ≡ 0 = rw none (omega arith) in
      let level = h.within in
      elim o [
        | inl e ↦ rw e (λ l. omega (arith, ints, flat, level))
        | inr e ↦ rw e (λ l. omega (arith, ints, flat, level))
      ]

  plain_enough : IsPlain steep w → (k : ℕ) → IsFirst k → CostsEnough most steep w d q k
  plain_enough f k o =
      let y = f.0.0 in
      let n = f.1 in
      let once : steep ≡ 1 = omega (arith, some, f.2) in
      let same : steep * w ≡ w = rw once (omega arith) in
      let level = h.within in
      elim o [
        | inl e ↦ rw (e, y, n) (λ l. omega (arith, ints, same, level))
        | inr (inl e) ↦ rw (e, y, n) (λ l. (let g = h.forth l in omega (arith, ints, g)))
        | inr (inr (inl e)) ↦ rw (e, y, n) (λ l. omega (arith, ints, same, level))
        | inr (inr (inr e)) ↦ rw (e, y, n) (λ l. (let g = h.back l in omega (arith, ints, g)))
      ]

  -- where nothing flows in the direction of an arc of one unit
  open_forth : amount_of q ≡ 0 → d ≤ℤ pos w
  open_forth e =
      elim (amount_free (amount_of (neg_ℤ q))) [
        | inl z ↦ (let g = h.none e z in omega (arith, ints, g))
        | inr l ↦ (let g = h.back l in omega (arith, ints, g))
      ]
    where
      amount_free : (n : ℕ) → (n ≡ 0) ⊎ (0 < n)
      amount_free zero = inl refl
      amount_free (suc n) = inr (omega arith)

  open_back : amount_of (neg_ℤ q) ≡ 0 → neg_ℤ d ≤ℤ pos w
  open_back e =
      elim (amount_free (amount_of q)) [
        | inl z ↦ (let g = h.none z e in omega (arith, ints, g))
        | inr l ↦ (let g = h.forth l in omega (arith, ints, g))
      ]
    where
      amount_free : (n : ℕ) → (n ≡ 0) ⊎ (0 < n)
      amount_free zero = inl refl
      amount_free (suc n) = inr (omega arith)

  split_enough : IsSplit steep w → (k : ℕ) → IsAny k → CostsEnough most steep w d q k
  split_enough f =
      let y = f.0.0 in
      let n = f.1 in
      let level = h.within in
      each_place (CostsEnough most steep w d q)
      (rw (y, n) (λ l. open_forth (omega (arith, l))))
      (rw (y, n) (λ l. (let g = h.forth (omega (arith, l)) in omega (arith, ints, g))))
      (rw (y, n) (λ l. open_back (omega (arith, l))))
      (rw (y, n) (λ l. (let g = h.back (omega (arith, l)) in omega (arith, ints, g))))
      (rw (y, n) (λ l. omega (arith, ints, level)))
      (rw (y, n) (λ l. (let g = h.forth_more (omega (arith, l)) in omega (arith, ints, g))))
      (rw (y, n) (λ l. omega (arith, ints, level)))
      (rw (y, n) (λ l. (let g = h.back_more (omega (arith, l)) in omega (arith, ints, g))))

  pub costs_enough : (k : ℕ) → k < 8 → is_taken steep w k ≡ true → CostsEnough most steep w d q k
  costs_enough k below t =
      elim (kinds steep w) [
        | inl f ↦ free_enough f k (free_place steep w f k t)
        | inr (inl f) ↦ plain_enough f k (plain_place steep w f k t)
        | inr (inr f) ↦ split_enough f k (eight_places k below)
      ]

-- ---- numbers that sum to 0, whose positive parts sum to no more than m
part_facts : (z : ℤ) → (pos 0 ≤ℤ positive_part z) × (z ≤ℤ positive_part z)
part_facts (pos n) = (omega (arith, ints), omega (arith, ints))
part_facts (negsuc n) = (omega (arith, ints), omega (arith, ints))

pub each_within : (n m : ℕ) (f : ℕ → ℤ) → sum_below n f ≡ pos 0 → sum_below n (λ k. positive_part (f k)) ≤ℤ pos m → (u : ℕ) → u < n → unsigned_abs (f u) ≤ m
each_within n m f even few u l =
    let part = λ (k : ℕ). positive_part (f k) in
    let rest = λ (k : ℕ). positive_part (f k) -ℤ f k in
    let one = term-le n u part l (λ k i. (part_facts (f k)).0) in
    let other = term-le n u rest l (λ k i. (let p = (part_facts (f k)).1 in omega (arith, ints, p))) in
    let all : sum_below n part ≡ sum_below n rest +ℤ sum_below n f = sum_below-same n part (λ k. rest k +ℤ f k) (λ k i. omega (arith, ints)) ∙ sum_below-add n rest f in
    let facts = part_facts (f u) in
    bounded (f u) (positive_part (f u)) (sum_below n part) (sum_below n rest) (sum_below n f) one other all even few facts.0 facts.1
  where
    bounded : (z p a b c : ℤ) → p ≤ℤ a → (p -ℤ z) ≤ℤ b → a ≡ b +ℤ c → c ≡ pos 0 → a ≤ℤ pos m → pos 0 ≤ℤ p → z ≤ℤ p → unsigned_abs z ≤ m
    bounded z p a b c i j k o q x y = omega (arith, ints, i, j, k, o, q, x, y)

module _ (v : Window) (little : IsRasterWindow v) (steep : ℕ) (weight : ℕ → ℕ) (flow : ℕ → ℤ) (within : (n : ℕ) → unsigned_abs (flow n) ≤ capacity_of (arc_capacity v) steep (weight n)) where
  -- ---- what can leave a node, edge by edge
  out_by_edges : (flow excess potential : ℕ → ℤ) → ((n : ℕ) → unsigned_abs (flow n) ≤ capacity_of (arc_capacity v) steep (weight n)) → (u : ℕ) → residual_out (window_shape v steep weight) (window_state v steep weight flow excess potential) u ≡ sum_below (edges_of v) (λ n. leaving (capacity_of (arc_capacity v) steep (weight n)) (first_side v (edge_of v n) == u) (other_side v (edge_of v n) == u) (flow n))
  out_by_edges flow excess potential small u =
      sum_below-eights (edges_of v) (out_term (window_shape v steep weight) (window_state v steep weight flow excess potential) u)
      ∙ sum_below-same (edges_of v) (octet (window_shape v steep weight) (window_state v steep weight flow excess potential) u) (λ n. leaving (capacity_of (arc_capacity v) steep (weight n)) (first_side v (edge_of v n) == u) (other_side v (edge_of v n) == u) (flow n)) (λ n l. octet_leaves v little steep weight flow excess potential small u n l)

  edge_leaves : (u n : ℕ) → leaving (capacity_of (arc_capacity v) steep (weight n)) (first_side v (edge_of v n) == u) (other_side v (edge_of v n) == u) (pos 0) ≡ leaving (capacity_of (arc_capacity v) steep (weight n)) (first_side v (edge_of v n) == u) (other_side v (edge_of v n) == u) (flow n) +ℤ leaves v flow u n
  edge_leaves u n =
      let first : (u == first_side v (edge_of v n)) ≡ (first_side v (edge_of v n) == u) = same_tests u (first_side v (edge_of v n)) (first_side v (edge_of v n)) u (λ e. sym e) (λ e. sym e) in
      let other : (u == other_side v (edge_of v n)) ≡ (other_side v (edge_of v n) == u) = same_tests u (other_side v (edge_of v n)) (other_side v (edge_of v n)) u (λ e. sym e) (λ e. sym e) in
      split (capacity_of (arc_capacity v) steep (weight n)) (first_side v (edge_of v n) == u) (other_side v (edge_of v n) == u) (flow n)
      ∙ ap (λ (z : ℤ). leaving (capacity_of (arc_capacity v) steep (weight n)) (first_side v (edge_of v n) == u) (other_side v (edge_of v n) == u) (flow n) +ℤ z) (ap₂ (λ (t i : Bool). where_true t (flow n) -ℤ where_true i (flow n)) (sym first) (sym other))
    where
      split : (c : ℕ) (t i : Bool) (q : ℤ) → leaving c t i (pos 0) ≡ leaving c t i q +ℤ (where_true t q -ℤ where_true i q)
      split c true true q = omega (arith, ints)
      split c true false q = omega (arith, ints)
      split c false true q = omega (arith, ints)
      split c false false q = omega (arith, ints)

  -- what flows leaves less
  out_less : (excess potential : ℕ → ℤ) (u : ℕ) → residual_out (window_shape v steep weight) (window_state v steep weight (λ n. pos 0) (λ n. pos 0) (λ n. pos 0)) u ≡ residual_out (window_shape v steep weight) (window_state v steep weight flow excess potential) u +ℤ sum_below (edges_of v) (leaves v flow u)
  out_less excess potential u =
      let terms = λ (f : ℕ → ℤ) (n : ℕ). leaving (capacity_of (arc_capacity v) steep (weight n)) (first_side v (edge_of v n) == u) (other_side v (edge_of v n) == u) (f n) in
      out_by_edges (λ n. pos 0) (λ n. pos 0) (λ n. pos 0) (λ n. omega (arith, ints)) u
      ∙ sum_below-same (edges_of v) (terms (λ n. pos 0)) (λ n. terms flow n +ℤ leaves v flow u n) (λ n l. edge_leaves u n)
      ∙ sum_below-add (edges_of v) (terms flow) (leaves v flow u)
      ∙ ap (λ (z : ℤ). z +ℤ sum_below (edges_of v) (leaves v flow u)) (sym (out_by_edges flow excess potential within u))

  -- ---- from a state in which nothing had flowed
  module _ (f : State) (fresh : (a : ℕ) → IsArc (window_shape v steep weight) a → f.residual a ≡ start_residual v steep weight a) (excess potential : ℕ → ℤ) (sent : (u : ℕ) → excess u ≡ f.excess u -ℤ sum_below (edges_of v) (leaves v flow u)) where
    pub reached_conserved : IsConserved (window_shape v steep weight) f (window_state v steep weight flow excess potential)
    reached_conserved = record {
      pairs = pairs;
      nodes = λ u l. (
          let before = residual_out-same (window_shape v steep weight) (window_state v steep weight (λ n. pos 0) (λ n. pos 0) (λ n. pos 0)) f u fresh in
          less (excess u) (f.excess u) (residual_out (window_shape v steep weight) (window_state v steep weight flow excess potential) u) (residual_out (window_shape v steep weight) f u) (sum_below (edges_of v) (leaves v flow u)) (sent u) (before ∙ out_less excess potential u));
    }
      where
        less : (x y o p s : ℤ) → x ≡ y -ℤ s → p ≡ o +ℤ s → x -ℤ o ≡ y -ℤ p
        less x y o p s e h = omega (arith, ints, e, h)

        pairs : (a : ℕ) → IsArc (window_shape v steep weight) a → (window_state v steep weight flow excess potential).residual a + (window_state v steep weight flow excess potential).residual ((window_shape v steep weight).twin a) ≡ f.residual a + f.residual ((window_shape v steep weight).twin a)
        pairs a arc =
            let twin = (grid_is_network v steep weight).has_twin a arc in
            let edge = twin_edge v steep weight a arc in
            let place = twin_at_place v steep weight a arc in
            let at = λ (g : ℕ → ℤ). ap₂ (λ (n k : ℕ). residual_at (arc_capacity v) steep (weight n) (g n) k) edge place in
            ap (λ (r : ℕ). (window_state v steep weight flow excess potential).residual a + r) (at flow)
            ∙ pair_kept (arc_capacity v) steep (weight (a / 8)) (flow (a / 8)) (a % 8) (mod_below a 8 (omega arith)) (arc_taken v steep weight a arc) (within (a / 8))
            ∙ ap₂ (λ (r s : ℕ). r + s) (sym (fresh a arc)) (sym (at (λ n. pos 0)) ∙ sym (fresh ((window_shape v steep weight).twin a) twin))

    pub reached_even : sum_below (cells_of v + 1) f.excess ≡ pos 0 → sum_below (cells_of v + 1) excess ≡ pos 0
    reached_even even =
        let out = λ (u : ℕ). sum_below (edges_of v) (leaves v flow u) in
        let all : sum_below (cells_of v + 1) f.excess ≡ sum_below (cells_of v + 1) excess +ℤ sum_below (cells_of v + 1) out = sum_below-same (cells_of v + 1) f.excess (λ u. excess u +ℤ out u) (λ u l. (let e = sent u in omega (arith, ints, e))) ∙ sum_below-add (cells_of v + 1) excess out in
        let none : sum_below (cells_of v + 1) out ≡ pos 0 = sum_below-swap (cells_of v + 1) (edges_of v) (leaves v flow) ∙ sum_below-zeros (edges_of v) (λ n. sum_below (cells_of v + 1) (λ u. leaves v flow u n)) (λ n l. returns n) in
        omega (arith, ints, all, none, even)
      where
        -- what leaves one side comes to the other
        returns : (n : ℕ) → sum_below (cells_of v + 1) (λ u. leaves v flow u n) ≡ pos 0
        returns n =
            let zeros = sum_below-zeros (cells_of v + 1) (λ u. pos 0) (λ u l. refl) in
            let both = sum_below-two (cells_of v + 1) (other_side v (edge_of v n)) (first_side v (edge_of v n)) (flow n) (flow n) (λ u. pos 0) (λ u. leaves v flow u n) (other_below v (edge_of v n)) (first_below v (edge_of v n)) (λ u l. omega (arith, ints)) in
            omega (arith, ints, zeros, both)

    pub reached_kept : 1 ≤ steep → sum_below (cells_of v + 1) f.excess ≡ pos 0 → ((n : ℕ) → n < edges_of v → IsHeldAt v steep weight flow potential n) → HasReducedCosts (window_shape v steep weight) (window_state v steep weight flow excess potential)
    reached_kept some even held = record { at_least = at_least; even = reached_even even }
      where
        forth : (t h x y c : ℤ) → x ≡ t → y ≡ h → (h -ℤ t) ≤ℤ c → pos 0 ≤ℤ (c +ℤ x -ℤ y)
        forth t h x y c i j l = omega (arith, ints, i, j, l)

        back : (t h x y c : ℤ) → x ≡ t → y ≡ h → neg_ℤ (t -ℤ h) ≤ℤ c → pos 0 ≤ℤ (c +ℤ x -ℤ y)
        back t h x y c i j l = omega (arith, ints, i, j, l)

        at_least : (a : ℕ) → IsArc (window_shape v steep weight) a → 0 < (window_state v steep weight flow excess potential).residual a → pos 0 ≤ℤ reduced_cost (window_shape v steep weight) (window_state v steep weight flow excess potential) a
        at_least a arc l =
            let e = edge_of v (a / 8) in
            let enough = costs_enough (arc_capacity v) steep (weight (a / 8)) some (potential (other_side v e) -ℤ potential (first_side v e)) (flow (a / 8)) (held (a / 8) (edge_below_end v steep weight a (arc_below v steep weight a arc))) (a % 8) (mod_below a 8 (omega arith)) (arc_taken v steep weight a arc) l in
            let tail = tail_is v steep weight a arc in
            elim (cases_Bool (leads_forth (a % 8))) [
              | inl t ↦ (
                  let head : (window_shape v steep weight).head a ≡ other_side v e = rw t refl in
                  forth (potential (first_side v e)) (potential (other_side v e)) _ _ _ (ap potential (rw t at tail)) (ap potential head) (rw t at enough))
              | inr t ↦ (
                  let head : (window_shape v steep weight).head a ≡ first_side v e = rw t refl in
                  back (potential (other_side v e)) (potential (first_side v e)) _ _ _ (ap potential (rw t at tail)) (ap potential head) (rw t at enough))
            ]

-- ---- what flows and what is to flow is less than there are nodes
pub reached_near : (v : Window) (steep : ℕ) (weight : ℕ → ℕ) (flow excess potential : ℕ → ℤ) (most : ℕ) → ((n : ℕ) → unsigned_abs (flow n) ≤ most) → most ≤ cells_of v → total_excess (window_shape v steep weight) (window_state v steep weight flow excess potential) ≤ℤ pos (cells_of v - most) → StaysNearStart (start_residual v steep weight) (window_shape v steep weight) (window_state v steep weight flow excess potential)
reached_near v steep weight flow excess potential most small few total a arc =
    let near = near_place (arc_capacity v) steep (weight (a / 8)) (flow (a / 8)) (a % 8) in
    both (total_excess (window_shape v steep weight) (window_state v steep weight flow excess potential)) _ _ (unsigned_abs (flow (a / 8))) (cells_of v) near.0 near.1 (small (a / 8)) few total
  where
    both : (z : ℤ) (r s d c : ℕ) → r ≤ s + d → s ≤ r + d → d ≤ most → most ≤ c → z ≤ℤ pos (c - most) → ((pos r +ℤ z) <ℤ pos (s + (c + 1))) × ((pos s +ℤ z) <ℤ pos (r + (c + 1)))
    both z r s d c i j k l m = (omega (arith, ints, i, j, k, l, m), omega (arith, ints, i, j, k, l, m))

-- ---- what code adds up
pub positive_none : (zs : List ℤ) (limit left : ℕ) → left ≡ limit → pos left +ℤ positive_sum zs 0 ≡ pos limit
positive_none zs limit left e = let n = sum_below-none (λ u. positive_part (get_or zs u (pos 0))) in omega (arith, ints, e, n)

pub positive_more : (zs : List ℤ) (n limit left part : ℕ) → part ≡ amount_of (get_or zs n (pos 0)) → part ≤ left → pos left +ℤ positive_sum zs n ≡ pos limit → pos (left - part) +ℤ positive_sum zs (n + 1) ≡ pos limit
positive_more zs n limit left part e l h =
    let more = sum_below-more n (λ u. positive_part (get_or zs u (pos 0))) in
    let same = amount_part (get_or zs n (pos 0)) in
    omega (arith, ints, e, l, h, more, same)
  where
    amount_part : (z : ℤ) → pos (amount_of z) ≡ positive_part z
    amount_part (pos n) = refl
    amount_part (negsuc n) = refl

pub moved_none : (f : ℕ → ℤ) (z : ℤ) → z ≡ z -ℤ sum_below 0 f
moved_none f z = let n = sum_below-none f in omega (arith, ints, n)

pub moved_more : (v : Window) (flow : ℕ → ℤ) (u n i o : ℕ) (before mid after start m p : ℤ) → i ≡ first_side v (edge_of v n) → o ≡ other_side v (edge_of v n) → m ≡ neg_ℤ (flow n) → p ≡ flow n → mid ≡ before +ℤ where_true (u == i) m → after ≡ mid +ℤ where_true (u == o) p → before ≡ start -ℤ sum_below n (leaves v flow u) → after ≡ start -ℤ sum_below (n + 1) (leaves v flow u)
moved_more v flow u n i o before mid after start m p ei eo em ep first second h =
    let more = sum_below-more n (leaves v flow u) in
    let one = first ∙ ap₂ (λ (k : ℕ) (z : ℤ). before +ℤ where_true (u == k) z) ei em in
    let two = second ∙ ap₂ (λ (k : ℕ) (z : ℤ). mid +ℤ where_true (u == k) z) eo ep in
    let turned = where_turned (u == first_side v (edge_of v n)) (flow n) in
    omega (arith, ints, more, one, two, turned, h)
  where
    where_turned : (t : Bool) (z : ℤ) → where_true t (neg_ℤ z) ≡ neg_ℤ (where_true t z)
    where_turned true z = refl
    where_turned false z = omega (arith, ints)

pub where_small : (t : Bool) (z : ℤ) (b : ℕ) → unsigned_abs z ≤ b → unsigned_abs (where_true t z) ≤ b
where_small true z b l = l
where_small false z b l = omega (arith, ints)

pub small_more : (n : ℕ) (before mid after x y : ℤ) → unsigned_abs x ≤ 268435456 → unsigned_abs y ≤ 268435456 → mid ≡ before +ℤ x → after ≡ mid +ℤ y → unsigned_abs before ≤ 268435456 + n * 536870912 → unsigned_abs after ≤ 268435456 + (n + 1) * 536870912
small_more n before mid after x y p q e f l = omega (arith, ints, p, q, e, f, l)

-- ---- the grid after flows that go together with potentials
module _ (g : DualGrid) (fresh : (a : ℕ) → IsArc (grid_shape g) a → (grid_state g).residual a ≡ grid_start g a) (few : total_excess (grid_shape g) (grid_state g) <ℤ pos (grid_shape g).nodes) where
  -- what the nodes have is small
  pub excess_few : (u : ℕ) → unsigned_abs (number_or_zero g.excesses.items u) ≤ 268435456
  excess_few u =
      elim (cases_lt u (cells_of g.window + 1)) [
        | inl l ↦ (
            let e = each_within (cells_of g.window + 1) (cells_of g.window) (number_or_zero g.excesses.items) g.has_reduced_costs.even (less (total_excess (grid_shape g) (grid_state g)) few) u l in
            let c = few_cells g.window g.limited in
            omega (arith, e, c))
        | inr l ↦ rw (get_or_past g.excesses.items u (pos 0) (omega (arith, g.fit.by_node, l))) (omega arith)
      ]
    where
      less : (z : ℤ) → z <ℤ pos (cells_of g.window + 1) → z ≤ℤ pos (cells_of g.window)
      less z h = omega (arith, ints, h)

  module _ (flows excesses potentials : List ℤ) (most : ℕ) (small : AreSmallNumbers most flows) (bound : most ≤ cells_of g.window) where
    pub after_within : AreWithinCapacity g.window g.steep g.weights.items flows
    after_within n = let s = small n in at_least (is_split g.steep (weight_in g.weights.items n)) (omega (arith, s, bound))
      where
        at_least : (b : Bool) → unsigned_abs (number_or_zero flows n) ≤ cells_of g.window + 1 → unsigned_abs (number_or_zero flows n) ≤ (if b then arc_capacity g.window + 1 else arc_capacity g.window)
        at_least true l = omega (arith, l)
        at_least false l = l

    pub after_near : length excesses ≡ cells_of g.window + 1 → positive_sum excesses (length excesses) ≤ℤ pos (cells_of g.window - most) → StaysNearStart (grid_start g) (grid_shape g) (state_by g.window g.steep g.weights.items flows excesses potentials)
    after_near count total =
        reached_near g.window g.steep (weight_in g.weights.items) (number_or_zero flows) (number_or_zero excesses) (number_or_zero potentials) most small bound
        (subst (λ (n : ℕ). positive_sum excesses n ≤ℤ pos (cells_of g.window - most)) count total)

    module _ (sent : (u : ℕ) → number_or_zero excesses u ≡ number_or_zero g.excesses.items u -ℤ sum_below (edges_of g.window) (leaves g.window (number_or_zero flows) u)) where
      pub after_conserved : IsConserved (grid_shape g) (grid_state g) (state_by g.window g.steep g.weights.items flows excesses potentials)
      after_conserved = reached_conserved g.window g.limited g.steep (weight_in g.weights.items) (number_or_zero flows) after_within (grid_state g) fresh (number_or_zero excesses) (number_or_zero potentials) sent

      pub after_kept : ((n : ℕ) → n < edges_of g.window → IsHeldAt g.window g.steep (weight_in g.weights.items) (number_or_zero flows) (number_or_zero potentials) n) → HasReducedCosts (grid_shape g) (state_by g.window g.steep g.weights.items flows excesses potentials)
      after_kept held = reached_kept g.window g.limited g.steep (weight_in g.weights.items) (number_or_zero flows) after_within (grid_state g) fresh (number_or_zero excesses) (number_or_zero potentials) sent g.steepness.0 g.has_reduced_costs.even held

      pub after_room : ((u : ℕ) → unsigned_abs (number_or_zero excesses u) ≤ 2 ^ 60) → HasRoom (grid_shape g) (flat_state_by g.window g.steep g.weights.items flows excesses)
      after_room low = has_room g.window g.limited g.steep g.weights.items flows excesses after_within g.room.costs (λ u l. (let e = low u in omega (arith, e)))
