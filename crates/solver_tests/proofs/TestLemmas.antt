-- Networks that tests build.
use Rattle.std.proofs.Common.{◌≡◌, ℕ, ◌+◌, ◌-◌, ◌*◌, ◌<◌, ◌≤◌, ◌^◌, sym, ◌∙◌, ap, arith, inl, inr, get_or, List, length}
use Rattle.std.specs.Prelude.{ℤ, pos, neg_ℤ, ◌≤ℤ◌, unsigned_abs}
use Rattle.std.proofs.lemmas.Int.{ints}
use Rattle.std.proofs.lemmas.Bool.{cases_eq, cases_lt}
use Rattle.flow_network.specs.Nets.{Shape, State, IsArc, IsNetwork}
use Rattle.flow_network.specs.Growing.{supply_sizes, total_amount, AddsArc}
use Rattle.flow_network.proofs.CallerLemmas.{total_amount-added}
use Rattle.shortest_augment.specs.Balance.{BoundsCosts, HasZeroPotentials}
use Rattle.sums_and_lists.specs.Sums.{sum_below, where_true}
use Rattle.sums_and_lists.proofs.SumLemmas.{sum_below-none, sum_below-same}

-- a network after n arcs, with excesses and residuals of at most `used` in all
pub record IsBuilt (s : Shape) (f : State) (n used : ℕ) : Type 0 where
  pub nodes : s.nodes < 1000
  pub arcs : s.arcs ≡ 2 * n
  pub are_arcs : (a : ℕ) → a < s.arcs → IsArc s a
  pub flat : HasZeroPotentials s f
  pub costs : (a : ℕ) → a < s.arcs → unsigned_abs (s.cost a) ≤ 2 ^ 40
  pub amount : total_amount s f ≤ℤ pos used
  pub room : used ≤ 2 ^ 62

pub built_start : (s : Shape) (f : State) (supplies : List ℤ) (size : ℕ) → length supplies < 1000 → supply_sizes supplies ≤ℤ pos size → size ≤ 2 ^ 62 → s.nodes ≡ length supplies → s.arcs ≡ 0 → ((v : ℕ) → v < length supplies → f.excess v ≡ get_or supplies v (pos 0)) → ((v : ℕ) → v < length supplies → f.potential v ≡ pos 0) → IsBuilt s f 0 size
built_start s f supplies size few small most nodes arcs excess potential =
    let held = λ (v : ℕ). pos (unsigned_abs (f.excess v)) in
    let given = λ (v : ℕ). pos (unsigned_abs (get_or supplies v (pos 0))) in
    let residual = λ (a : ℕ). where_true (s.is_arc a) (pos (f.residual a)) in
    let sizes : sum_below s.nodes held ≡ sum_below (length supplies) given = ap (λ (n : ℕ). sum_below n held) nodes ∙ sum_below-same (length supplies) held given (λ v l. ap (λ (x : ℤ). pos (unsigned_abs x)) (excess v l)) in
    let none : sum_below s.arcs residual ≡ pos 0 = ap (λ (n : ℕ). sum_below n residual) arcs ∙ sum_below-none residual in
    record {
      nodes = omega (arith, nodes, few);
      arcs = arcs;
      are_arcs = λ a l. absurd (omega (arith, arcs, l));
      flat = λ v l. potential v (omega (arith, nodes, l));
      costs = λ a l. absurd (omega (arith, arcs, l));
      amount = omega (arith, ints, sizes, none, small);
      room = most;
    }

module _ (s z : Shape) (f g : State) (t h n used capacity : ℕ) (cost : ℤ) (net : IsNetwork z) (built : IsBuilt s f n used) (added : AddsArc s z f g t h cost capacity 0) (low : pos 0 ≤ℤ cost) (high : cost ≤ℤ pos (2 ^ 40)) (fits : capacity ≤ 2 ^ 62 - used) where
  pub built_next : IsBuilt z g (n + 1) (used + capacity)
  built_next = record {
    nodes = (let e : z.nodes ≡ s.nodes = added.nodes in omega (arith, e, built.nodes));
    arcs = (let e : z.arcs ≡ s.arcs + 2 = added.arcs in omega (arith, e, built.arcs));
    are_arcs = λ a l. (let e : z.arcs ≡ s.arcs + 2 = added.arcs in added.are_arcs a (omega (arith, e, l)));
    flat = λ v l. (let m : v < s.nodes = rw added.nodes at l in added.potential v m ∙ built.flat v m);
    costs = λ a l. (
        let e : z.arcs ≡ s.arcs + 2 = added.arcs in
        elim (cases_lt a s.arcs) [
          | inl m ↦ rw (added.costs a m) (built.costs a m)
          | inr m ↦ elim (cases_eq a s.arcs) [
            | inl q ↦ (let c : z.cost a ≡ cost = ap z.cost q ∙ added.cost_is in rw c (omega (arith, ints, low, high)))
            | inr q ↦ (
                let last : a ≡ s.arcs + 1 = omega (arith, q, m, l, e) in
                let twin : z.cost (s.arcs + 1) ≡ neg_ℤ (z.cost s.arcs) = ap z.cost (sym added.twin) ∙ net.negated s.arcs (added.are_arcs s.arcs (omega arith)) in
                let c : z.cost a ≡ neg_ℤ cost = ap z.cost last ∙ twin ∙ ap neg_ℤ added.cost_is in
                rw c (omega (arith, ints, low, high)))
          ]
        ]);
    amount = (let a = total_amount-added s z f g t h cost capacity 0 built.are_arcs added in omega (arith, ints, a, built.amount, fits));
    room = omega (arith, built.room, fits);
  }

pub built_bounded : (s : Shape) (f : State) (n used : ℕ) → IsNetwork s → IsBuilt s f n used → BoundsCosts s (2 ^ 40)
built_bounded s f n used net built = record {
  costs = λ a arc. built.costs a (net.below a arc);
  small = omega (arith, built.nodes);
}
