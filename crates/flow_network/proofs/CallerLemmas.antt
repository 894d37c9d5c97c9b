-- Lemmas for crates above: for those that build a network, those that change one, and those that implement `FlowNet`.
use Rattle.std.proofs.Common.{◌≡◌, ℕ, ◌+◌, ◌<◌, ◌∙◌, ap, refl, arith}
use Rattle.std.specs.Prelude.{ℤ, pos, ◌+ℤ◌, unsigned_abs}
use Rattle.std.proofs.lemmas.Int.{ints}
use Rattle.flow_network.specs.Nets.{Shape, State, IsArc}
use Rattle.flow_network.specs.Moves.{IsConserved}
use Rattle.flow_network.specs.Growing.{total_residual, total_amount, AddsArc}
use Rattle.sums_and_lists.proofs.SumLemmas.{sum_below-more, sum_below-same}
-- sums
pub use Rattle.flow_network.proofs.RoomLemmas.{term-le, sum-not_below}
-- reduced costs
pub use Rattle.flow_network.proofs.PushLemmas.{reduced_cost-same, reduced_cost-twin, reduced_cost-raised}
-- what a push and a raise keep, for implementations
pub use Rattle.flow_network.proofs.PushLemmas.{kept-pushed, kept-raised, pushed-at, conserved-pushed, conserved-still, conserved-raised}
use Rattle.sums_and_lists.specs.Sums.{sum_below, where_true}

pub conserved-refl : (s : Shape) (f : State) → IsConserved s f f
conserved-refl s f = record { pairs = λ a arc. refl; nodes = λ v l. refl }

pub conserved-trans : (s : Shape) (f g h : State) → IsConserved s f g → IsConserved s g h → IsConserved s f h
conserved-trans s f g h p q = record { pairs = λ a arc. q.pairs a arc ∙ p.pairs a arc; nodes = λ v l. q.nodes v l ∙ p.nodes v l }

-- what an arc adds to the amount that a network holds
pub total_amount-added : (s z : Shape) (f g : State) (t h : ℕ) (cost : ℤ) (forward back : ℕ) → ((a : ℕ) → a < s.arcs → IsArc s a) → AddsArc s z f g t h cost forward back → total_amount z g ≡ total_amount s f +ℤ pos forward +ℤ pos back
total_amount-added s z f g t h cost forward back all p =
    let size = λ (x : State) (v : ℕ). pos (unsigned_abs (x.excess v)) in
    let old = λ (a : ℕ). where_true (s.is_arc a) (pos (f.residual a)) in
    let new = λ (a : ℕ). where_true (z.is_arc a) (pos (g.residual a)) in
    let sizes : sum_below z.nodes (size g) ≡ sum_below s.nodes (size f) = ap (λ (n : ℕ). sum_below n (size g)) p.nodes ∙ sum_below-same s.nodes (size g) (size f) (λ v l. ap (λ (x : ℤ). pos (unsigned_abs x)) (p.excess v l)) in
    let count : z.arcs ≡ s.arcs + 1 + 1 = (let e : z.arcs ≡ s.arcs + 2 = p.arcs in omega (arith, e)) in
    let first : new s.arcs ≡ pos forward = rw (p.are_arcs s.arcs (omega arith)) (ap pos p.forward_is) in
    let second : new (s.arcs + 1) ≡ pos back = rw (p.are_arcs (s.arcs + 1) (omega arith)) (ap pos p.back_is) in
    let rest : sum_below s.arcs new ≡ sum_below s.arcs old = sum_below-same s.arcs new old (λ a l. rw (p.are_arcs a (omega (arith, l)), all a l) (ap pos (p.residuals a l))) in
    let parts : total_residual z g ≡ sum_below s.arcs new +ℤ new s.arcs +ℤ new (s.arcs + 1) = ap (λ (n : ℕ). sum_below n new) count ∙ sum_below-more (s.arcs + 1) new ∙ ap (λ (x : ℤ). x +ℤ new (s.arcs + 1)) (sum_below-more s.arcs new) in
    omega (arith, ints, sizes, first, second, rest, parts)
