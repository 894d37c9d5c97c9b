-- A network seen from potentials that were reached is a network, and its reduced costs are what they are.
use Rattle.std.proofs.Common.{◌≡◌, ℕ, ◌≤◌, ap, arith}
use Rattle.std.specs.Prelude.{ℤ, neg_ℤ, ◌+ℤ◌, ◌-ℤ◌, Option, List, unsigned_abs}
use Rattle.std.proofs.lemmas.Int.{ints}
use Rattle.std.proofs.lemmas.Nat.{mul-le}
use Rattle.flow_network.specs.Nets.{Shape, State, IsNetwork, IsNextBelow, HasReducedCosts, reduced_cost, tail_of}
use Rattle.flow_network.specs.Moves.{IsPushed, IsRaised, MayRaise}
use Rattle.dual_grid.specs.Answers.{StaysNearStart}
use Rattle.dual_grid.specs.Grids.{HasSmallCosts}
use Rattle.shortest_augment.specs.Balance.{BoundsCosts}
use Rattle.network_solver.specs.Leveled.{leveled_shape, leveled_state}

module _ (s : Shape) (base : ℕ → ℤ) where
  pub same_reduced_cost : (f : State) (a : ℕ) → reduced_cost (leveled_shape s base) (leveled_state f base) a ≡ reduced_cost s f a
  same_reduced_cost f a = omega (arith, ints)

  pub leveled_network : IsNetwork s → IsNetwork (leveled_shape s base)
  leveled_network net = record {
    below = net.below;
    ends = net.ends;
    has_twin = net.has_twin;
    back = net.back;
    apart = net.apart;
    negated = λ a arc. turned (s.cost a) (s.cost (s.twin a)) (base (tail_of s a)) (base (s.head a)) (base (tail_of s (s.twin a))) (net.negated a arc) (ap (λ (b : ℕ). base (s.head b)) (net.back a arc));
  }
    where
      turned : (c d t h u : ℤ) → d ≡ neg_ℤ c → u ≡ h → d +ℤ u -ℤ t ≡ neg_ℤ (c +ℤ t -ℤ h)
      turned c d t h u e i = omega (arith, ints, e, i)

  pub leveled_kept : (f : State) → HasReducedCosts s f → HasReducedCosts (leveled_shape s base) (leveled_state f base)
  leveled_kept f kept = record { at_least = λ a arc l. rw (same_reduced_cost f a) (kept.at_least a arc l); even = kept.even }

  pub leveled_next : (v high : ℕ) (o : Option ℕ) → IsNextBelow s v high o → IsNextBelow (leveled_shape s base) v high o
  leveled_next v high o next = record { found = next.found; ended = next.ended }

  pub leveled_pushed : (a amount : ℕ) (f g : State) → IsPushed s a amount f g → IsPushed (leveled_shape s base) a amount (leveled_state f base) (leveled_state g base)
  leveled_pushed a amount f g p = record { residual = p.residual; excess = p.excess; potential = λ u l. ap (λ (z : ℤ). z -ℤ base u) (p.potential u l) }

  pub leveled_raised : (amounts : List ℤ) (f g : State) → IsRaised s amounts f g → IsRaised (leveled_shape s base) amounts (leveled_state f base) (leveled_state g base)
  leveled_raised amounts f g r = record { residual = r.residual; excess = r.excess; potential = λ u l. (let e = r.potential u l in omega (arith, ints, e)) }

  pub may_raise_below : (amounts : List ℤ) (f : State) → MayRaise (leveled_shape s base) (leveled_state f base) amounts → MayRaise s f amounts
  may_raise_below amounts f may a arc l = rw (same_reduced_cost f a) at (may a arc l)

  -- costs are small, where the potentials that were reached lie within the limit
  pub leveled_bounded : HasSmallCosts s → ((u : ℕ) → unsigned_abs (base u) ≤ 1073741824) → BoundsCosts (leveled_shape s base) 2148532208
  leveled_bounded small low = record {
    costs = λ a arc. (
        let c = small.costs a arc in
        let t = low (tail_of s a) in
        let h = low (s.head a) in
        omega (arith, ints, c, t, h));
    small = (let m = mul-le s.nodes 2148532208 268435456 2148532208 small.few (omega arith) in omega (arith, m));
  }

  pub leveled_near : (start : ℕ → ℕ) (f : State) → StaysNearStart start s f → StaysNearStart start (leveled_shape s base) (leveled_state f base)
  leveled_near start f near a arc = near a arc
