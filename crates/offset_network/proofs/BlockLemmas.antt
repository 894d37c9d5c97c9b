-- No nodes block the network: the flow on each lane that leaves them is all that it can carry.
use Rattle.std.proofs.Common.{◌≡◌, ℕ, ◌+◌, ◌<◌, ◌∙◌, ap, sym, refl, arith, Bool, true, false, List, length}
use Rattle.std.specs.Prelude.{ℤ, pos, ◌+ℤ◌, ◌-ℤ◌, ◌≤ℤ◌, ◌==◌, Option, Some, None}
use Rattle.std.proofs.lemmas.Int.{ints}
use Rattle.raster_model.proofs.SumLemmas.{sum_grid-swap}
use Rattle.flow_network.specs.Nets.{Shape, State, IsArc, IsNetwork, tail_of}
use Rattle.shortest_augment.specs.Balance.{IsBlocked}
use Rattle.shortest_augment.proofs.CallerLemmas.{blocked_excess, contains-is_in, is_in, is_in-contains}
use Rattle.offset_network.specs.declared.lane.Lane.{Lane}
use Rattle.offset_network.specs.Lanes.{AreLanes, IsLane, arcs_before, brings, lane_at}
use Rattle.offset_network.specs.Networks.{HasArcs, HasFlows, flow_left, lane_flow}
use Rattle.offset_network.proofs.FlowLemmas.{first_is_arc, first_tail, twin_is_arc, twin_tail}
use Rattle.sums_and_lists.proofs.Tests.{true_and_false}
use Rattle.sums_and_lists.specs.Sums.{sum_below, where_true}
use Rattle.sums_and_lists.proofs.SumLemmas.{sum_below-add, sum_below-le, sum_below-pick, sum_below-same, sum_below-zeros, where_true-zero}
use Rattle.sums_and_lists.proofs.Orders.{none_left}

-- what a lane brings to some of the regions
abbrev brings_all : (ℕ → Bool) → Option Lane → ℤ → ℤ
brings_all inside None x = pos 0
brings_all inside (Some k) x = where_true (inside k.to) x -ℤ where_true (inside k.from) x

-- a sum over some of n regions in which one term is not 0
sum_inside : (n u : ℕ) (inside : ℕ → Bool) (x : ℤ) → u < n → sum_below n (λ v. where_true (inside v) (where_true (u == v) x)) ≡ where_true (inside u) x
sum_inside n u inside x l =
    sum_below-same n (λ v. where_true (inside v) (where_true (u == v) x)) (λ v. where_true (u == v) (where_true (inside v) x)) (λ v m. turned (inside v) (u == v))
    ∙ sum_below-pick n u (λ v. where_true (inside v) x) l
  where
    turned : (t e : Bool) → where_true t (where_true e x) ≡ where_true e (where_true t x)
    turned true e = refl
    turned false e = sym (where_true-zero e)

negated : (t e : Bool) (x y : ℤ) → where_true t (x -ℤ y) +ℤ where_true t y ≡ where_true t x
negated true e x y = omega (arith, ints)
negated false e x y = omega (arith, ints)

-- so a lane brings that to them in sum
brings_in_sum : (n : ℕ) (inside : ℕ → Bool) (o : Option Lane) (x : ℤ) → ((k : Lane) → o ≡ Some k → IsLane n k) → sum_below n (λ v. where_true (inside v) (brings o v x)) ≡ brings_all inside o x
brings_in_sum n inside None x is = sum_below-zeros n (λ v. where_true (inside v) (pos 0)) (λ v l. where_true-zero (inside v))
brings_in_sum n inside (Some k) x is =
    let to = λ (v : ℕ). where_true (k.to == v) x in
    let from = λ (v : ℕ). where_true (k.from == v) x in
    let add = sum_below-add n (λ v. where_true (inside v) (to v -ℤ from v)) (λ v. where_true (inside v) (from v)) in
    let sum = sum_below-same n (λ v. where_true (inside v) (to v -ℤ from v) +ℤ where_true (inside v) (from v)) (λ v. where_true (inside v) (to v)) (λ v l. negated (inside v) true (to v) (from v)) in
    omega (arith, ints, add, sum, sum_inside n k.to inside x (is k refl).to, sum_inside n k.from inside x (is k refl).from)

inside_sum : (t : Bool) (m : ℕ) (h : ℕ → ℤ) → where_true t (sum_below m h) ≡ sum_below m (λ j. where_true t (h j))
inside_sum true m h = refl
inside_sum false m h = sym (sum_below-zeros m (λ j. pos 0) (λ j l. refl))

-- a lane brings nothing above 0 to regions that nothing can leave
at_most : (t u : Bool) (low high p q : ℕ) → p + q ≡ low + high → (u ≡ true → t ≡ false → p ≡ 0) → (t ≡ true → u ≡ false → q ≡ 0) → (where_true t (pos high -ℤ pos p) -ℤ where_true u (pos high -ℤ pos p)) ≤ℤ pos 0
at_most true true low high p q e a b = omega (arith, ints)
at_most true false low high p q e a b = omega (arith, ints, e, b refl refl)
at_most false true low high p q e a b = omega (arith, ints, e, a refl refl)
at_most false false low high p q e a b = omega (arith, ints)

module _ (n : ℕ) (lanes : List (Option Lane)) (s : Shape) (g : State) (net : IsNetwork s) (are : AreLanes n lanes) (h : HasArcs n lanes (length lanes) s g) (flows : HasFlows n lanes g) (names : List ℕ) (b : IsBlocked s g names) where
  abbrev inside : ℕ → Bool
  inside = is_in names

  -- where an arc leaves the nodes, nothing is left of it
  nothing_left : (a u v : ℕ) → IsArc s a → tail_of s a ≡ u → s.head a ≡ v → inside u ≡ true → inside v ≡ false → g.residual a ≡ 0
  nothing_left a u v is from to i o =
      none_left (g.residual a) (λ l. true_and_false (inside v) (contains-is_in names v (rw to at (b.closed a is l (rw (sym from) at (is_in-contains names u i))))) o)

  lane_brings : (j : ℕ) → j < length lanes → (o : Option Lane) → lane_at lanes j ≡ o → brings_all inside o (flow_left o (g.residual (arcs_before lanes j))) ≤ℤ pos 0
  lane_brings j l None e = omega (arith, ints)
  lane_brings j l (Some k) e =
      let a = arcs_before lanes j in
      let is = h.each j k l e in
      at_most (inside k.to) (inside k.from) k.low k.high (g.residual a) (g.residual (a + 1)) is.capacity
      (λ i o. nothing_left a k.from k.to (first_is_arc n lanes s g net h j k l e) (first_tail n lanes s g net h j k l e) is.head i o)
      (λ i o. nothing_left (a + 1) k.to k.from (twin_is_arc n lanes s g net h j k l e) (twin_tail n lanes s g net h j k l e) is.tail i o)

  pub never_blocked : ⊥
  never_blocked =
      let m = length lanes in
      let at = λ (v j : ℕ). brings (lane_at lanes j) v (lane_flow lanes g j) in
      let held = blocked_excess s g names b in
      let raster = ap (λ (k : ℕ). sum_below k (λ v. where_true (inside v) (g.excess v))) h.nodes in
      let terms : sum_below n (λ v. where_true (inside v) (g.excess v)) ≡ sum_below n (λ v. sum_below m (λ j. where_true (inside v) (at v j))) =
      sum_below-same n (λ v. where_true (inside v) (g.excess v)) (λ v. sum_below m (λ j. where_true (inside v) (at v j))) (λ v l. ap (where_true (inside v)) (flows v l) ∙ inside_sum (inside v) m (at v)) in
      let swap = sum_grid-swap m n (λ j v. where_true (inside v) (at v j)) in
      let all : sum_below m (λ j. sum_below n (λ v. where_true (inside v) (at v j))) ≤ℤ sum_below m (λ j. pos 0) =
      sum_below-le m (λ j. sum_below n (λ v. where_true (inside v) (at v j))) (λ j. pos 0)
      (λ j l. rw (brings_in_sum n inside (lane_at lanes j) (lane_flow lanes g j) (are.each j)) (lane_brings j l (lane_at lanes j) refl)) in
      let zero = sum_below-zeros m (λ j. pos 0) (λ j l. refl) in
      omega (arith, ints, held, raster, terms, swap, all, zero)
