-- A window's network is never blocked.
use Rattle.std.proofs.Common.{◌≡◌, ℕ, zero, suc, ◌<◌, sym, refl, ◌∙◌, arith, inl, inr, Bool, true, false, ◌⊎◌, List}
use Rattle.std.specs.Prelude.{pos, ◌<ℤ◌, not}
use Rattle.std.proofs.lemmas.Int.{ints}
use Rattle.std.proofs.lemmas.Nat.{mul-le}
use Rattle.std.proofs.lemmas.Bool.{cases_Bool, false≢true, not-true, not-false}
use Rattle.flow_network.specs.Nets.{Shape, State, IsArc, HasReducedCosts, tail_of, total_excess}
use Rattle.shortest_augment.specs.Balance.{BoundsCosts, IsBlocked, MovesAtMost}
use Rattle.shortest_augment.proofs.CallerLemmas.{is_in, is_in-contains, contains-is_in, blocked_excess, blocked_outside}
use Rattle.dual_grid.specs.Answers.{IsNearStart, StaysNearStart}
use Rattle.dual_grid.specs.Grids.{HasSmallCosts}
use Rattle.dual_grid.proofs.CallerLemmas.{leads_out}
use Rattle.network_solver.specs.Fresh.{CanBeBalanced}
use Rattle.sums_and_lists.proofs.Orders.{below_or_at}
use Rattle.sums_and_lists.specs.Sums.{sum_below, where_true}
use Rattle.sums_and_lists.proofs.SumLemmas.{sum_below-zeros}

some_or_none : (test : ℕ → Bool) (n : ℕ) → ((u : ℕ) × ((u < n) × (test u ≡ true))) ⊎ ((u : ℕ) → u < n → test u ≡ false)
some_or_none test zero = inr (λ u l. absurd (omega arith))
some_or_none test (suc n) =
    elim (cases_Bool (test n)) [
      | inl t ↦ inl (n, (omega arith, t))
      | inr t ↦ elim (some_or_none test n) [
        | inl p ↦ inl (p.0, (omega (arith, p.1.0), p.1.1))
        | inr p ↦ inr (λ u l. elim (below_or_at u n l) [ inl m ↦ p u m | inr e ↦ rw e t ])
      ]
    ]

module _ (begin : ℕ → ℕ) (s : Shape) (f g : State) (fresh : CanBeBalanced begin s f) (moved : MovesAtMost s (total_excess s f) f g) where
  -- no residual is far from that at the start
  pub near_start : IsNearStart begin s g
  near_start a i =
      let m = moved a i in
      let r = fresh.near a i in
      (omega (arith, ints, m.0, r.0), omega (arith, ints, m.1, r.1))

  -- an arc with capacity left leads out of any nodes that hold excess in sum
  pub never_blocked : (names : List ℕ) → HasReducedCosts s g → IsBlocked s g names → ⊥
  never_blocked names kept b =
      elim (some_or_none (is_in names) s.nodes) [
        | inr none ↦ (
            let all : sum_below s.nodes (λ v. where_true (is_in names v) (g.excess v)) ≡ pos 0 = sum_below-zeros s.nodes (λ v. where_true (is_in names v) (g.excess v)) (λ v l. rw (none v l) refl) in
            let holds = blocked_excess s g names b in
            omega (arith, ints, all, holds))
        | inl u ↦ elim (some_or_none (λ v. not (is_in names v)) s.nodes) [
          | inr none ↦ blocked_outside s g names kept b (λ v l. not-false (is_in names v) (none v l))
          | inl w ↦ (
              let a = leads_out begin s g fresh.joined near_start (is_in names) u.0 w.0 u.1.0 w.1.0 u.1.1 (not-true (is_in names w.0) w.1.1) in
              let head = b.closed a.0 a.1.0 a.1.1 (is_in-contains names (tail_of s a.0) a.1.2) in
              false≢true (sym a.1.3 ∙ contains-is_in names (s.head a.0) head))
        ]
      ]

-- where nothing has flowed, and fewer units are to flow than there are nodes
pub fresh_near : (begin : ℕ → ℕ) (s : Shape) (f : State) → ((a : ℕ) → IsArc s a → f.residual a ≡ begin a) → total_excess s f <ℤ pos s.nodes → StaysNearStart begin s f
fresh_near begin s f fresh few a i = let r = fresh a i in (omega (arith, ints, r, few), omega (arith, ints, r, few))

-- costs of a grid are within what a solver takes
pub small_bounded : (s : Shape) → HasSmallCosts s → BoundsCosts s 1048560
small_bounded s small = record {
  costs = small.costs;
  small = (let m = mul-le s.nodes 1048560 268435456 1048560 small.few (omega arith) in omega (arith, m));
}
