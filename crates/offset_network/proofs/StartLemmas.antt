-- The network while it is made.
use Rattle.std.proofs.Common.{◌≡◌, ℕ, ◌+◌, ◌<◌, ◌≤◌, ◌∙◌, ap, sym, subst, refl, arith, List, length, inl, inr, ◌⊎◌}
use Rattle.std.specs.Prelude.{ℤ, pos, neg_ℤ, ◌-ℤ◌, Option, Some, None, slice_index_or, unsigned_abs}
use Rattle.std.proofs.lemmas.Int.{ints}
use Rattle.flow_network.specs.Nets.{Shape, State, IsNetwork}
use Rattle.flow_network.specs.Growing.{AddsArc, supply_sizes, total_residual}
use Rattle.flow_network.proofs.CallerLemmas.{total_amount-added}
use Rattle.shortest_augment.specs.Balance.{BoundsCosts}
use Rattle.offset_network.specs.declared.lane.Lane.{Lane}
use Rattle.offset_network.specs.Lanes.{AreLanes, IsLane, IsLaneIn, arcs_before, arcs_of, lane_at, start_flow}
use Rattle.offset_network.specs.Networks.{AddsLaneArc, AreSupplies, IsArcOf, IsJoined, IsStarted, flow_left, lane_flow}
use Rattle.offset_network.proofs.LaneLemmas.{arcs-more, arcs-none}
use Rattle.sums_and_lists.specs.Sums.{sum_below}
use Rattle.sums_and_lists.proofs.Orders.{below_or_last}
use Rattle.sums_and_lists.proofs.SumLemmas.{sum_below-none, sum_below-same}

-- no lane has its arcs yet
pub started : (n : ℕ) (lanes : List (Option Lane)) (zs : List ℤ) (s : Shape) (f : State) → AreSupplies n lanes (length lanes) zs → s.nodes ≡ length zs → s.arcs ≡ 0 → ((v : ℕ) → v < length zs → f.excess v ≡ slice_index_or zs v (pos 0)) → ((v : ℕ) → v < length zs → f.potential v ≡ pos 0) → IsStarted n lanes 0 s f
started n lanes zs s f are nodes arcs excess potential = record {
  built = record {
    nodes = nodes ∙ are.count;
    arcs = arcs ∙ sym (arcs-none lanes);
    are_arcs = λ a l. absurd (omega (arith, l, arcs));
    each = λ j k l e. absurd (omega (arith, l));
  };
  flows = λ j l. absurd (omega (arith, l));
  excess = λ v l. excess v (omega (arith, l, are.count)) ∙ are.values v l;
  flat = λ v l. potential v (omega (arith, l, are.count));
  costs = λ a l. absurd (omega (arith, l, arcs));
  amount = (
      let sizes : sum_below s.nodes (λ v. pos (unsigned_abs (f.excess v))) ≡ supply_sizes zs =
      ap (λ (m : ℕ). sum_below m (λ v. pos (unsigned_abs (f.excess v)))) nodes ∙ sum_below-same (length zs) (λ v. pos (unsigned_abs (f.excess v))) (λ v. pos (unsigned_abs (slice_index_or zs v (pos 0)))) (λ v l. ap (λ (x : ℤ). pos (unsigned_abs x)) (excess v l)) in
      let none : total_residual s f ≡ pos 0 = no_arcs s f arcs in
      omega (arith, ints, sizes, none, are.sizes));
}
  where
    no_arcs : (s : Shape) (f : State) → s.arcs ≡ 0 → total_residual s f ≡ pos 0
    no_arcs s f e = rw e (sum_below-none _)

-- an arc keeps its place while others come
kept_arc : (s z : Shape) (f g : State) (t h : ℕ) (cost : ℤ) (forward back : ℕ) → AddsArc s z f g t h cost forward back → (a : ℕ) (k : Lane) → IsArcOf s f a k → IsArcOf z g a k
kept_arc s z f g t h cost forward back p a k is =
    let first : a < s.arcs = omega (arith, is.below) in
    record {
      below = omega (arith, is.below, p.arcs);
      head = p.heads a first ∙ is.head;
      tail = p.heads (a + 1) is.below ∙ is.tail;
      twin = p.twins a first ∙ is.twin;
      cost = p.costs a first ∙ is.cost;
      capacity = omega (arith, is.capacity, p.residuals a first, p.residuals (a + 1) is.below);
    }

left_same : (o : Option Lane) (p q : ℕ) → ((k : Lane) → o ≡ Some k → p ≡ q) → flow_left o p ≡ flow_left o q
left_same None p q h = refl
left_same (Some k) p q h = ap (λ (x : ℕ). pos k.high -ℤ pos x) (h k refl)

-- one lane more
module _ (n : ℕ) (lanes : List (Option Lane)) (i : ℕ) (s z : Shape) (f g : State) (net : IsNetwork z) (h : IsStarted n lanes i s f) where
  without : lane_at lanes i ≡ None → z ≡ s → g ≡ f → IsStarted n lanes (i + 1) z g
  without e es ef =
      let more : arcs_before lanes (i + 1) ≡ arcs_before lanes i = omega (arith, arcs-more lanes i, ap arcs_of e) in
      rw (es, ef) (record {
        built = record {
          nodes = h.built.nodes;
          arcs = h.built.arcs ∙ sym more;
          are_arcs = h.built.are_arcs;
          each = λ j k l q. elim (below_or_last j i l) [
            | inl m ↦ h.built.each j k m q
            | inr m ↦ absurd (none_or_some k (sym e ∙ ap (lane_at lanes) (sym m) ∙ q))
          ];
        };
        flows = λ j l. elim (below_or_last j i l) [
          | inl m ↦ h.flows j m
          | inr m ↦ rw (m, e) refl
        ];
        excess = h.excess;
        flat = h.flat;
        costs = h.costs;
        amount = omega (arith, ints, h.amount);
      })
    where
      none_or_some : (k : Lane) → None ≡ Some k → ⊥
      none_or_some k q = cc

  module _ (k : Lane) (e : lane_at lanes i ≡ Some k) (is : IsLane n k) (q : AddsLaneArc s z f g k) where
    last_arc : IsArcOf z g (arcs_before lanes i) k
    last_arc =
        let at : s.arcs ≡ arcs_before lanes i = h.built.arcs in
        let there : IsArcOf z g s.arcs k = record {
          below = omega (arith, q.arc.arcs);
          head = q.arc.head;
          tail = q.arc.tail;
          twin = q.arc.twin;
          cost = q.arc.cost_is;
          capacity = omega (arith, ints, q.left, q.pushed, q.arc.forward_is, q.arc.back_is);
        } in
        subst (λ (a : ℕ). IsArcOf z g a k) at there

    arc_of : (j : ℕ) (m : Lane) → j < i + 1 → lane_at lanes j ≡ Some m → IsArcOf z g (arcs_before lanes j) m
    arc_of j m l w =
        elim (below_or_last j i l) [
          | inl d ↦ kept_arc s z f g _ _ _ _ _ q.arc (arcs_before lanes j) m (h.built.each j m d w)
          | inr d ↦ (
              let same : m ≡ k = the_same (sym w ∙ ap (lane_at lanes) d ∙ e) in
              rw (d, same) last_arc)
        ]
      where
        the_same : Some m ≡ Some k → m ≡ k
        the_same p = cc

    flow_at_start : (j : ℕ) → j < i + 1 → lane_flow lanes g j ≡ start_flow (lane_at lanes j)
    flow_at_start j l =
        elim (below_or_last j i l) [
          | inl d ↦ left_same (lane_at lanes j) (g.residual (arcs_before lanes j)) (f.residual (arcs_before lanes j)) (λ m w. (let b = (h.built.each j m d w).below in q.arc.residuals (arcs_before lanes j) (omega (arith, b)))) ∙ h.flows j d
          | inr d ↦ rw (d, e) (
              let at : s.arcs ≡ arcs_before lanes i = h.built.arcs in
              let r : g.residual (arcs_before lanes i) ≡ q.forward = ap g.residual (sym at) ∙ q.arc.forward_is in
              omega (arith, ints, r, q.left))
        ]

    cost_small : (a : ℕ) → a < z.arcs → unsigned_abs (z.cost a) ≤ 16777218
    cost_small a l =
        elim (three a s.arcs (omega (arith, l, q.arc.arcs))) [
          | inl d ↦ rw (q.arc.costs a d) (h.costs a d)
          | inr (inl d) ↦ rw (d, q.arc.cost_is) (omega (arith, ints, is.departure))
          | inr (inr d) ↦ (
              let minus : z.cost (s.arcs + 1) ≡ neg_ℤ (neg_ℤ k.departure) = ap z.cost (sym q.arc.twin) ∙ net.negated s.arcs (q.arc.are_arcs s.arcs (omega arith)) ∙ ap neg_ℤ q.arc.cost_is in
              rw (d, minus) (omega (arith, ints, is.departure)))
        ]
      where
        three : (a b : ℕ) → a < b + 2 → (a < b) ⊎ ((a ≡ b) ⊎ (a ≡ b + 1))
        three a b l = grind arith

    joined : IsStarted n lanes (i + 1) z g
    joined =
        let all = total_amount-added s z f g _ _ _ _ _ h.built.are_arcs q.arc in
        record {
          built = record {
            nodes = q.arc.nodes ∙ h.built.nodes;
            arcs = (let a = ap arcs_of e in omega (arith, q.arc.arcs, h.built.arcs, arcs-more lanes i, a));
            are_arcs = λ a l. q.arc.are_arcs a (omega (arith, l, q.arc.arcs));
            each = arc_of;
          };
          flows = flow_at_start;
          excess = λ v l. q.arc.excess v (omega (arith, l, h.built.nodes)) ∙ h.excess v l;
          flat = λ v l. q.arc.potential v (omega (arith, l, h.built.nodes)) ∙ h.flat v l;
          costs = cost_small;
          amount = omega (arith, ints, all, h.amount, q.left, q.pushed, is.low, is.high);
        }

  pub started_next : IsLaneIn n (lane_at lanes i) → IsJoined s z f g (lane_at lanes i) → IsStarted n lanes (i + 1) z g
  started_next = go (lane_at lanes i) refl
    where
      go : (o : Option Lane) → lane_at lanes i ≡ o → IsLaneIn n o → IsJoined s z f g o → IsStarted n lanes (i + 1) z g
      go None e is q = without e q.0 q.1
      go (Some k) e is q = joined k e (is k refl) q

-- its costs and nodes are few enough to be balanced
pub bounds_costs : (n : ℕ) (lanes : List (Option Lane)) (s : Shape) (f : State) → IsNetwork s → AreLanes n lanes → IsStarted n lanes (length lanes) s f → BoundsCosts s 16777218
bounds_costs n lanes s f net are h = record {
  costs = λ a is. h.costs a (net.below a is);
  small = omega (arith, h.built.nodes, are.regions);
}
