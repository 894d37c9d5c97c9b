-- Where no excess is left and no arc with capacity left has a reduced cost below 0, no flow costs less.
use Rattle.std.proofs.Common.{◌≡◌, ℕ, zero, suc, ◌<◌, sym, ◌∙◌, ap, refl, arith, Bool, true, false, inl, inr}
use Rattle.std.specs.Prelude.{◌==◌, ◌&&◌, ℤ, pos, negsuc, neg_ℤ, ◌+ℤ◌, ◌-ℤ◌, ◌*ℤ◌, ◌≤ℤ◌, ◌<ℤ◌}
use Rattle.std.proofs.Math.IntN.{zero-*ℤ, *ℤ-zero, pos-*ℤ-pos, negsuc-*ℤ-negsuc}
use Rattle.std.proofs.lemmas.Int.{ints}
use Rattle.std.proofs.lemmas.Bool.{cases_Bool, false≢true, ne_eqb}
use Rattle.flow_network.specs.Nets.{Shape, State, HasNoExcess, IsArc, IsNetwork, HasReducedCosts, reduced_cost, tail_of}
use Rattle.flow_network.specs.Moves.{IsConserved, out_term, residual_out}
use Rattle.flow_network.specs.Laws.{residual_cost, BalancedIsLeast}
use Rattle.flow_network.proofs.RoomLemmas.{sum-not_below}
use Rattle.flow_network.proofs.PushLemmas.{at_place, reduced_cost-twin}
use Rattle.sums_and_lists.proofs.SumLemmas.{where_zero, sum_below-add, sum_below-swap, sum_below-times, sum_below-same, sum_below-zeros, sum_below-one, same_tests}
use Rattle.sums_and_lists.proofs.Products.{mul-add, add-mul}
use Rattle.sums_and_lists.specs.Sums.{sum_below, where_true}

sub-mul : (a b f : ℤ) → (a -ℤ b) *ℤ f ≡ a *ℤ f -ℤ b *ℤ f
sub-mul a b f =
    let e : a ≡ (a -ℤ b) +ℤ b = omega (arith, ints) in
    let k : a *ℤ f ≡ (a -ℤ b) *ℤ f +ℤ b *ℤ f = ap (λ (x : ℤ). x *ℤ f) e ∙ add-mul (a -ℤ b) b f in
    omega (arith, ints, k)

-- a product of numbers of one sign
mul-not_below : (d r : ℤ) → (pos 0 <ℤ d → pos 0 ≤ℤ r) → (d <ℤ pos 0 → r ≤ℤ pos 0) → pos 0 ≤ℤ (d *ℤ r)
mul-not_below (pos zero) r p q = rw (zero-*ℤ r) (omega (arith, ints))
mul-not_below (pos (suc n)) (pos m) p q = rw (pos-*ℤ-pos (suc n) m) (omega (arith, ints))
mul-not_below (pos (suc n)) (negsuc m) p q = absurd (let l : pos 0 ≤ℤ negsuc m = p (omega (arith, ints)) in omega (arith, ints, l))
mul-not_below (negsuc n) (pos zero) p q = rw (*ℤ-zero (negsuc n)) (omega (arith, ints))
mul-not_below (negsuc n) (pos (suc m)) p q = absurd (let l : pos (suc m) ≤ℤ pos 0 = q (omega (arith, ints)) in omega (arith, ints, l))
mul-not_below (negsuc n) (negsuc m) p q = rw (negsuc-*ℤ-negsuc n m) (omega (arith, ints))

-- the one term of a sum at k
sum-pick : (m k : ℕ) (z : ℕ → ℤ) → k < m → sum_below m (λ b. where_true (b == k) (z b)) ≡ z k
sum-pick m k z l =
    let e = sum_below-one m k (z k) (λ b. pos 0) (λ b. where_true (b == k) (z b)) l (λ b lb. (let q = at_place b k z in omega (arith, ints, q))) in
    let o = sum_below-zeros m (λ b. pos 0) (λ b lb. refl) in
    omega (arith, ints, e, o)

no_arc : {b : Bool} (z : ℤ) → b ≡ false → where_true b z ≡ pos 0
no_arc z e = rw e refl

spread : (b u w : Bool) (m n : ℕ) (p : ℤ) → u ≡ w → where_true u (where_true b ((pos m -ℤ pos n) *ℤ p)) ≡ (where_true (b && w) (pos m) -ℤ where_true (b && w) (pos n)) *ℤ p
spread true true true m n p e = refl
spread true true false m n p e = absurd (false≢true (sym e))
spread true false true m n p e = absurd (false≢true e)
spread true false false m n p e = sym (zero-*ℤ p)
spread false true w m n p e = sym (zero-*ℤ p)
spread false false w m n p e = sym (zero-*ℤ p)

-- the terms of twins are the terms of all arcs
module _ (s : Shape) (net : IsNetwork s) (z : ℕ → ℤ) where
  at : ℕ → ℕ → ℤ
  at a b = where_true (b == s.twin a) (where_true (s.is_arc a) (z b))

  row : (a : ℕ) → where_true (s.is_arc a) (z (s.twin a)) ≡ sum_below s.arcs (at a)
  unfolding at
  row a =
      elim (cases_Bool (s.is_arc a)) [
        | inl arc ↦ sym (sum-pick s.arcs (s.twin a) (λ b. where_true (s.is_arc a) (z b)) (net.below (s.twin a) (net.has_twin a arc)))
        | inr none ↦ no_arc (z (s.twin a)) none ∙ sym (sum_below-zeros s.arcs (at a) (λ b l. where_zero (b == s.twin a) (where_true (s.is_arc a) (z b)) (no_arc (z b) none)))
      ]

  turned : (a b : ℕ) → IsArc s b → at a b ≡ where_true (a == s.twin b) (where_true (s.is_arc b) (z b))
  unfolding at
  turned a b arc =
      elim (cases_Bool (s.is_arc a)) [
        | inl other ↦ (
            let t : (b == s.twin a) ≡ (a == s.twin b) = same_tests b (s.twin a) a (s.twin b) (λ e. sym (ap s.twin e ∙ net.back a other)) (λ e. sym (ap s.twin e ∙ net.back b arc)) in
            rw (t, other, arc) refl)
        | inr none ↦ (
            let q : (a == s.twin b) ≡ false = ne_eqb a (s.twin b) (λ e. false≢true (sym none ∙ ap s.is_arc e ∙ net.has_twin b arc)) in
            rw (q, none) (where_zero (b == s.twin a) (pos 0) refl))
      ]

  lost : (a b : ℕ) → s.is_arc b ≡ false → at a b ≡ pos 0
  unfolding at
  lost a b gone =
      elim (cases_Bool (s.is_arc a)) [
        | inl other ↦ rw (ne_eqb b (s.twin a) (λ e. false≢true (sym gone ∙ ap s.is_arc e ∙ net.has_twin a other))) refl
        | inr none ↦ rw none (where_zero (b == s.twin a) (pos 0) refl)
      ]

  column : (b : ℕ) → sum_below s.arcs (λ a. at a b) ≡ where_true (s.is_arc b) (z b)
  column b =
      elim (cases_Bool (s.is_arc b)) [
        | inl arc ↦ sum_below-same s.arcs (λ a. at a b) (λ a. where_true (a == s.twin b) (where_true (s.is_arc b) (z b))) (λ a l. turned a b arc) ∙ sum-pick s.arcs (s.twin b) (λ a. where_true (s.is_arc b) (z b)) (net.below (s.twin b) (net.has_twin b arc))
        | inr gone ↦ sum_below-zeros s.arcs (λ a. at a b) (λ a l. lost a b gone) ∙ sym (rw gone refl)
      ]

  twins-sum : sum_below s.arcs (λ a. where_true (s.is_arc a) (z (s.twin a))) ≡ sum_below s.arcs (λ b. where_true (s.is_arc b) (z b))
  twins-sum =
      sum_below-same s.arcs (λ a. where_true (s.is_arc a) (z (s.twin a))) (λ a. sum_below s.arcs (at a)) (λ a l. row a)
      ∙ sum_below-swap s.arcs s.arcs at
      ∙ sum_below-same s.arcs (λ b. sum_below s.arcs (λ a. at a b)) (λ b. where_true (s.is_arc b) (z b)) (λ b l. column b)

-- two flows, of which f has the kept facts
module _ (s : Shape) (f h : State) (net : IsNetwork s) (low : HasReducedCosts s f) (same : IsConserved s f h) (zf : HasNoExcess s f) (zh : HasNoExcess s h) where
  d : ℕ → ℤ
  d a = pos (f.residual a) -ℤ pos (h.residual a)

  d-twin : (a : ℕ) → IsArc s a → d (s.twin a) ≡ neg_ℤ (d a)
  unfolding d
  d-twin a arc = (let e = same.pairs a arc in omega (arith, ints, e))

  some : (a : ℕ) → pos 0 <ℤ d a → 0 < f.residual a
  unfolding d
  some a l = omega (arith, ints, l)

  reduced-not_below : (a : ℕ) → IsArc s a → pos 0 ≤ℤ (d a *ℤ reduced_cost s f a)
  reduced-not_below a arc =
      mul-not_below (d a) (reduced_cost s f a) (λ l. low.at_least a arc (some a l)) (λ l. (
      let e = d-twin a arc in
      let t = low.at_least (s.twin a) (net.has_twin a arc) (some (s.twin a) (omega (arith, ints, e, l))) in
      let k = reduced_cost-twin s f a net arc in
      omega (arith, ints, t, k)))

  -- the difference times each arc's number, over all arcs
  term : (ℕ → ℤ) → ℕ → ℤ
  term x a = where_true (s.is_arc a) (d a *ℤ x a)

  tail_at : ℕ → ℤ
  tail_at a = f.potential (tail_of s a)

  head_at : ℕ → ℤ
  head_at a = f.potential (s.head a)

  -- by the tail of each arc
  by_tail : ℕ → ℕ → ℤ
  by_tail a v = where_true (v == tail_of s a) (where_true (s.is_arc a) (d a *ℤ f.potential v))

  tail_row : (a : ℕ) → term tail_at a ≡ sum_below s.nodes (by_tail a)
  unfolding term tail_at by_tail
  tail_row a =
      elim (cases_Bool (s.is_arc a)) [
        | inl arc ↦ sym (sum-pick s.nodes (tail_of s a) (λ v. where_true (s.is_arc a) (d a *ℤ f.potential v)) (net.ends (s.twin a) (net.has_twin a arc)))
        | inr none ↦ no_arc (d a *ℤ tail_at a) none ∙ sym (sum_below-zeros s.nodes (by_tail a) (λ v l. where_zero (v == tail_of s a) (where_true (s.is_arc a) (d a *ℤ f.potential v)) (no_arc (d a *ℤ f.potential v) none)))
      ]

  gone : ℕ → ℕ → ℤ
  gone v a = out_term s f v a -ℤ out_term s h v a

  tail_term : (v a : ℕ) → by_tail a v ≡ gone v a *ℤ f.potential v
  unfolding by_tail gone d
  tail_term v a = spread (s.is_arc a) (v == tail_of s a) (tail_of s a == v) (f.residual a) (h.residual a) (f.potential v) (same_tests v (tail_of s a) (tail_of s a) v (λ e. sym e) (λ e. sym e))

  gone-none : (v : ℕ) → v < s.nodes → sum_below s.arcs (gone v) ≡ pos 0
  unfolding gone
  gone-none v l =
      let both = sum_below-add s.arcs (gone v) (out_term s h v) in
      let back : sum_below s.arcs (λ a. gone v a +ℤ out_term s h v a) ≡ residual_out s f v = sum_below-same s.arcs (λ a. gone v a +ℤ out_term s h v a) (out_term s f v) (λ a m. omega (arith, ints)) in
      let kept = same.nodes v l in
      let a = zf v l in
      let b = zh v l in
      omega (arith, ints, both, back, kept, a, b)

  tail_column : (v : ℕ) → v < s.nodes → sum_below s.arcs (λ a. by_tail a v) ≡ pos 0
  tail_column v l =
      sum_below-same s.arcs (λ a. by_tail a v) (λ a. gone v a *ℤ f.potential v) (λ a m. tail_term v a)
      ∙ sum_below-times s.arcs (f.potential v) (gone v)
      ∙ ap (λ (x : ℤ). x *ℤ f.potential v) (gone-none v l)
      ∙ zero-*ℤ (f.potential v)

  tails : sum_below s.arcs (term tail_at) ≡ pos 0
  tails =
      sum_below-same s.arcs (term tail_at) (λ a. sum_below s.nodes (by_tail a)) (λ a l. tail_row a)
      ∙ sum_below-swap s.arcs s.nodes by_tail
      ∙ sum_below-zeros s.nodes (λ v. sum_below s.arcs (λ a. by_tail a v)) tail_column

  -- what an arc's head gets, its twin's tail loses
  at_twin : ℕ → ℤ
  at_twin a = where_true (s.is_arc a) (d (s.twin a) *ℤ tail_at (s.twin a))

  head_term : (a : ℕ) → term head_at a +ℤ at_twin a ≡ pos 0
  unfolding term head_at tail_at at_twin
  head_term a =
      elim (cases_Bool (s.is_arc a)) [
        | inl arc ↦ (
            let p : f.potential (tail_of s (s.twin a)) ≡ f.potential (s.head a) = ap (λ (b : ℕ). f.potential (s.head b)) (net.back a arc) in
            let both : d a +ℤ d (s.twin a) ≡ pos 0 = (let e = d-twin a arc in omega (arith, ints, e)) in
            let k : (d a +ℤ d (s.twin a)) *ℤ f.potential (s.head a) ≡ pos 0 = ap (λ (x : ℤ). x *ℤ f.potential (s.head a)) both ∙ zero-*ℤ (f.potential (s.head a)) in
            rw (arc, p) (sym (add-mul (d a) (d (s.twin a)) (f.potential (s.head a))) ∙ k))
        | inr none ↦ rw none refl
      ]

  heads : sum_below s.arcs (term head_at) ≡ pos 0
  unfolding term at_twin
  heads =
      let both = sum_below-add s.arcs (term head_at) at_twin in
      let none : sum_below s.arcs (λ a. term head_at a +ℤ at_twin a) ≡ pos 0 = sum_below-zeros s.arcs (λ a. term head_at a +ℤ at_twin a) (λ a l. head_term a) in
      let turned : sum_below s.arcs at_twin ≡ sum_below s.arcs (term tail_at) = twins-sum s net (λ b. d b *ℤ tail_at b) in
      let t = tails in
      omega (arith, ints, both, none, turned, t)

  -- an arc's cost is its reduced cost, less the potential of its tail, plus that of its head
  arc_term : (a : ℕ) → term s.cost a +ℤ term tail_at a ≡ term (reduced_cost s f) a +ℤ term head_at a
  unfolding term tail_at head_at
  arc_term a =
      elim (cases_Bool (s.is_arc a)) [
        | inl arc ↦ (
            let e : s.cost a +ℤ f.potential (tail_of s a) ≡ reduced_cost s f a +ℤ f.potential (s.head a) = omega (arith, ints) in
            rw arc (sym (mul-add (d a) (s.cost a) (f.potential (tail_of s a))) ∙ ap (λ (x : ℤ). d a *ℤ x) e ∙ mul-add (d a) (reduced_cost s f a) (f.potential (s.head a))))
        | inr none ↦ rw none refl
      ]

  costs-not_below : pos 0 ≤ℤ sum_below s.arcs (term s.cost)
  unfolding term
  costs-not_below =
      let left = sum_below-add s.arcs (term s.cost) (term tail_at) in
      let right = sum_below-add s.arcs (term (reduced_cost s f)) (term head_at) in
      let e : sum_below s.arcs (λ a. term s.cost a +ℤ term tail_at a) ≡ sum_below s.arcs (λ a. term (reduced_cost s f) a +ℤ term head_at a) = sum_below-same s.arcs (λ a. term s.cost a +ℤ term tail_at a) (λ a. term (reduced_cost s f) a +ℤ term head_at a) (λ a l. arc_term a) in
      let r : pos 0 ≤ℤ sum_below s.arcs (term (reduced_cost s f)) = sum-not_below s.arcs (term (reduced_cost s f)) (λ a l. (
      elim (cases_Bool (s.is_arc a)) [
        | inl arc ↦ rw arc (reduced-not_below a arc)
        | inr none ↦ rw none (omega (arith, ints))
      ])) in
      let t = tails in
      let k = heads in
      omega (arith, ints, left, right, e, r, t, k)

  pub residual_cost-le : residual_cost s h ≤ℤ residual_cost s f
  unfolding term d
  residual_cost-le =
      let mine = λ (a : ℕ). where_true (s.is_arc a) (pos (f.residual a) *ℤ s.cost a) in
      let other = λ (a : ℕ). where_true (s.is_arc a) (pos (h.residual a) *ℤ s.cost a) in
      let both = sum_below-add s.arcs (term s.cost) other in
      let e : sum_below s.arcs (λ a. term s.cost a +ℤ other a) ≡ sum_below s.arcs mine = sum_below-same s.arcs (λ a. term s.cost a +ℤ other a) mine (λ a l. (
      elim (cases_Bool (s.is_arc a)) [
        | inl arc ↦ rw arc (let k = sub-mul (pos (f.residual a)) (pos (h.residual a)) (s.cost a) in omega (arith, ints, k))
        | inr none ↦ rw none refl
      ])) in
      let low = costs-not_below in
      omega (arith, ints, both, e, low)

-- two flows from one start keep what the other keeps
conserved_between : (s : Shape) (e f h : State) → IsConserved s e f → IsConserved s e h → IsConserved s f h
conserved_between s e f h p q = record { pairs = λ a arc. q.pairs a arc ∙ sym (p.pairs a arc); nodes = λ v l. q.nodes v l ∙ sym (p.nodes v l) }

pub balanced_is_least : BalancedIsLeast
balanced_is_least s e f h net low p zf q zh = (let k = residual_cost-le s f h net low (conserved_between s e f h p q) zf zh in omega (arith, ints, k))
