-- A push keeps what a network keeps.
use Rattle.std.proofs.Common.{◌≡◌, ℕ, ◌+◌, ◌<◌, sym, ◌∙◌, ap, refl, arith, Bool, true, false, inl, inr, subst, ◌⊎◌}
use Rattle.std.specs.Prelude.{◌==◌, ◌&&◌, ℤ, pos, ◌+ℤ◌, ◌-ℤ◌, ◌≤ℤ◌, neg_ℤ, if◌then◌else◌, List, get_or}
use Rattle.std.proofs.lemmas.Int.{ints}
use Rattle.std.proofs.lemmas.Bool.Decides.{eqb_tells}
use Rattle.std.proofs.lemmas.Bool.{and_parts, cases_Bool}
use Rattle.flow_network.specs.Nets.{Shape, State, IsArc, IsNetwork, HasReducedCosts, reduced_cost, tail_of}
use Rattle.flow_network.specs.Moves.{IsPushed, IsRaised, IsConserved, out_term, residual_out}
use Rattle.sums_and_lists.specs.Sums.{sum_below, where_true}
use Rattle.sums_and_lists.proofs.SumLemmas.{sum_below-two, sum_below-same, same_tests}

-- the same potentials give the same reduced costs
pub reduced_cost-same : (s : Shape) (f g : State) (a : ℕ) → IsNetwork s → IsArc s a → ((v : ℕ) → v < s.nodes → g.potential v ≡ f.potential v) → reduced_cost s g a ≡ reduced_cost s f a
reduced_cost-same s f g a net arc h = rw (h (tail_of s a) (net.ends (s.twin a) (net.has_twin a arc)), h (s.head a) (net.ends a arc))

pub reduced_cost-twin : (s : Shape) (f : State) (a : ℕ) → IsNetwork s → IsArc s a → reduced_cost s f (s.twin a) ≡ neg_ℤ (reduced_cost s f a)
reduced_cost-twin s f a net arc =
    let t : f.potential (tail_of s (s.twin a)) ≡ f.potential (s.head a) = ap (λ (c : ℕ). f.potential (s.head c)) (net.back a arc) in
    let e : s.cost (s.twin a) ≡ neg_ℤ (s.cost a) = net.negated a arc in
    omega (arith, ints, t, e)

-- an arc with capacity left after a push had it before, or is the twin
pub capacity-before : (s : Shape) (a m b : ℕ) (f g : State) → IsPushed s a m f g → IsArc s b → 0 < g.residual b → (0 < f.residual b) ⊎ (b ≡ s.twin a)
capacity-before s a m b f g p is_arc l =
    elim (eqb_tells b (s.twin a)) [
      | inl t ↦ inr t.1
      | inr t ↦ inl (let h : g.residual b + (if b == a then m else 0) ≡ f.residual b + 0 = p.residual b is_arc ∙ rw t.0 in omega arith)
    ]

pub kept-pushed : (s : Shape) (a m : ℕ) (f g : State) → IsNetwork s → HasReducedCosts s f → IsArc s a → reduced_cost s f a ≡ pos 0 → IsPushed s a m f g → HasReducedCosts s g
kept-pushed s a m f g net kept arc tight p = record {
  at_least = λ b is_arc l. (
      let same : reduced_cost s g b ≡ reduced_cost s f b = reduced_cost-same s f g b net is_arc p.potential in
      elim (capacity-before s a m b f g p is_arc l) [
        | inl q ↦ rw same (kept.at_least b is_arc q)
        | inr q ↦ (
            let e : reduced_cost s f b ≡ neg_ℤ (reduced_cost s f a) = ap (λ (c : ℕ). reduced_cost s f c) q ∙ reduced_cost-twin s f a net arc in
            rw same (omega (arith, ints, e, tight)))
      ]);
  even = (
      let e : sum_below s.nodes g.excess +ℤ pos m ≡ sum_below s.nodes f.excess +ℤ pos m =
      sum_below-two s.nodes (tail_of s a) (s.head a) (pos m) (pos m) f.excess g.excess (net.ends (s.twin a) (net.has_twin a arc)) (net.ends a arc)
      (λ k l. let h : g.excess k ≡ f.excess k -ℤ where_true (k == tail_of s a) (pos m) +ℤ where_true (k == s.head a) (pos m) = p.excess k l in omega (arith, ints, h)) in
      let z : sum_below s.nodes f.excess ≡ pos 0 = kept.even in
      omega (arith, ints, e, z));
}

-- the residual of an arc and its twin in sum
pub pairs-pushed : (s : Shape) (a m b : ℕ) (f g : State) → IsNetwork s → IsArc s a → IsArc s b → IsPushed s a m f g → g.residual b + g.residual (s.twin b) ≡ f.residual b + f.residual (s.twin b)
pairs-pushed s a m b f g net arc is_arc p =
    let at_b = p.residual b is_arc in
    let at_twin = p.residual (s.twin b) (net.has_twin b is_arc) in
    let x : (s.twin b == s.twin a) ≡ (b == a) = same_tests (s.twin b) (s.twin a) b a (λ e. sym (net.back b is_arc) ∙ ap s.twin e ∙ net.back a arc) (λ e. ap s.twin e) in
    let y : (s.twin b == a) ≡ (b == s.twin a) = same_tests (s.twin b) a b (s.twin a) (λ e. sym (net.back b is_arc) ∙ ap s.twin e) (λ e. ap s.twin e ∙ net.back a arc) in
    let at_twin' : g.residual (s.twin b) + (if b == s.twin a then m else 0) ≡ f.residual (s.twin b) + (if b == a then m else 0) = subst (λ (t : Bool). g.residual (s.twin b) + (if b == s.twin a then m else 0) ≡ f.residual (s.twin b) + (if t then m else 0)) x (subst (λ (t : Bool). g.residual (s.twin b) + (if t then m else 0) ≡ f.residual (s.twin b) + (if s.twin b == s.twin a then m else 0)) y at_twin) in
    omega (arith, at_b, at_twin')

-- a term at the place itself
pub at_place : (b a : ℕ) (z : ℕ → ℤ) → where_true (b == a) (z b) ≡ where_true (b == a) (z a)
at_place b a z =
    elim (eqb_tells b a) [
      | inl t ↦ ap (λ (c : ℕ). where_true (b == a) (z c)) t.1
      | inr t ↦ rw t.0 refl
    ]

pub where_pos : (t : Bool) (n m k l : ℕ) (u v : Bool) → (t ≡ true → n + (if u then m else 0) ≡ k + (if v then m else 0)) → where_true t (pos n) +ℤ where_true u (where_true t (pos m)) ≡ where_true t (pos k) +ℤ where_true v (where_true t (pos m))
where_pos true n m k l true true h = omega (arith, ints, h refl)
where_pos true n m k l true false h = omega (arith, ints, h refl)
where_pos true n m k l false true h = omega (arith, ints, h refl)
where_pos true n m k l false false h = omega (arith, ints, h refl)
where_pos false n m k l true true h = refl
where_pos false n m k l true false h = refl
where_pos false n m k l false true h = refl
where_pos false n m k l false false h = refl

-- what starts at v, where residuals are the same
pub residual_out-same : (s : Shape) (f g : State) (v : ℕ) → ((b : ℕ) → IsArc s b → g.residual b ≡ f.residual b) → residual_out s g v ≡ residual_out s f v
residual_out-same s f g v same = sum_below-same s.arcs (out_term s g v) (out_term s f v) (λ k l. (
    elim (cases_Bool (s.is_arc k)) [
      | inl arc ↦ ap (λ (r : ℕ). where_true (s.is_arc k && (tail_of s k == v)) (pos r)) (same k arc)
      | inr none ↦ rw none refl
    ]))

-- what starts at v, after a push
pub left-pushed : (s : Shape) (a m v : ℕ) (f g : State) → IsNetwork s → IsArc s a → IsPushed s a m f g → residual_out s g v +ℤ where_true (tail_of s a == v) (pos m) ≡ residual_out s f v +ℤ where_true (s.head a == v) (pos m)
left-pushed s a m v f g net arc p =
    let starts = λ (b : ℕ). s.is_arc b && (tail_of s b == v) in
    let z = λ (b : ℕ). where_true (starts b) (pos m) in
    let here : z a ≡ where_true (tail_of s a == v) (pos m) = rw arc refl in
    let there : z (s.twin a) ≡ where_true (s.head a == v) (pos m) = rw (net.has_twin a arc) (ap (λ (c : ℕ). where_true (s.head c == v) (pos m)) (net.back a arc)) in
    let e : residual_out s g v +ℤ z a ≡ residual_out s f v +ℤ z (s.twin a) =
    sum_below-two s.arcs a (s.twin a) (z a) (z (s.twin a)) (out_term s f v) (out_term s g v) (net.below a arc) (net.below (s.twin a) (net.has_twin a arc))
    (λ k l. (
    let q = where_pos (starts k) (g.residual k) m (f.residual k) 0 (k == a) (k == s.twin a) (λ e. p.residual k (and_parts (s.is_arc k) (tail_of s k == v) e).0) in
    let x : where_true (k == a) (z k) ≡ where_true (k == a) (z a) = at_place k a z in
    let y : where_true (k == s.twin a) (z k) ≡ where_true (k == s.twin a) (z (s.twin a)) = at_place k (s.twin a) z in
    omega (arith, ints, q, x, y))) in
    omega (arith, ints, e, here, there)

pub conserved-pushed : (s : Shape) (a m : ℕ) (f g : State) → IsNetwork s → IsArc s a → IsPushed s a m f g → IsConserved s f g
conserved-pushed s a m f g net arc p = record {
  pairs = λ b is_arc. pairs-pushed s a m b f g net arc is_arc p;
  nodes = λ v below. (
      let l = left-pushed s a m v f g net arc p in
      let e : g.excess v ≡ f.excess v -ℤ where_true (v == tail_of s a) (pos m) +ℤ where_true (v == s.head a) (pos m) = p.excess v below in
      let x : (v == tail_of s a) ≡ (tail_of s a == v) = same_tests v (tail_of s a) (tail_of s a) v (λ e. sym e) (λ e. sym e) in
      let y : (v == s.head a) ≡ (s.head a == v) = same_tests v (s.head a) (s.head a) v (λ e. sym e) (λ e. sym e) in
      let x' : where_true (v == tail_of s a) (pos m) ≡ where_true (tail_of s a == v) (pos m) = ap (λ (t : Bool). where_true t (pos m)) x in
      let y' : where_true (v == s.head a) (pos m) ≡ where_true (s.head a == v) (pos m) = ap (λ (t : Bool). where_true t (pos m)) y in
      omega (arith, ints, l, e, x', y'));
}

-- a push by its parts, at places that equal those of the arc
pub pushed-at : (s : Shape) (a m t h w : ℕ) (f g : State) → w ≡ s.twin a → t ≡ tail_of s a → h ≡ s.head a → ((b : ℕ) → IsArc s b → g.residual b + (if b == a then m else 0) ≡ f.residual b + (if b == w then m else 0)) → ((v : ℕ) → v < s.nodes → g.excess v ≡ f.excess v -ℤ where_true (v == t) (pos m) +ℤ where_true (v == h) (pos m)) → ((v : ℕ) → v < s.nodes → g.potential v ≡ f.potential v) → IsPushed s a m f g
pushed-at s a m t h w f g ew et eh r e p = record {
  residual = λ b arc. subst (λ (x : ℕ). g.residual b + (if b == a then m else 0) ≡ f.residual b + (if b == x then m else 0)) ew (r b arc);
  excess = λ v l. subst (λ (x : ℕ). g.excess v ≡ f.excess v -ℤ where_true (v == tail_of s a) (pos m) +ℤ where_true (v == x) (pos m)) eh (subst (λ (x : ℕ). g.excess v ≡ f.excess v -ℤ where_true (v == x) (pos m) +ℤ where_true (v == h) (pos m)) et (e v l));
  potential = p;
}

-- the reduced cost after a raise
pub reduced_cost-raised : (s : Shape) (f g : State) (amounts : List ℤ) (a : ℕ) → IsNetwork s → IsArc s a → IsRaised s amounts f g → reduced_cost s g a ≡ (reduced_cost s f a +ℤ get_or amounts (tail_of s a) (pos 0)) -ℤ get_or amounts (s.head a) (pos 0)
reduced_cost-raised s f g amounts a net arc r =
    let x : g.potential (tail_of s a) ≡ f.potential (tail_of s a) +ℤ get_or amounts (tail_of s a) (pos 0) = r.potential (tail_of s a) (net.ends (s.twin a) (net.has_twin a arc)) in
    let y : g.potential (s.head a) ≡ f.potential (s.head a) +ℤ get_or amounts (s.head a) (pos 0) = r.potential (s.head a) (net.ends a arc) in
    omega (arith, ints, x, y)

pub kept-raised : (s : Shape) (f g : State) (amounts : List ℤ) → IsNetwork s → HasReducedCosts s f → IsRaised s amounts f g → ((a : ℕ) → IsArc s a → 0 < f.residual a → pos 0 ≤ℤ ((reduced_cost s f a +ℤ get_or amounts (tail_of s a) (pos 0)) -ℤ get_or amounts (s.head a) (pos 0))) → HasReducedCosts s g
kept-raised s f g amounts net kept r h = record {
  at_least = λ a arc l. (let e : reduced_cost s g a ≡ (reduced_cost s f a +ℤ get_or amounts (tail_of s a) (pos 0)) -ℤ get_or amounts (s.head a) (pos 0) = reduced_cost-raised s f g amounts a net arc r in let q : 0 < f.residual a = rw (r.residual a arc) at l in rw e (h a arc q));
  even = sum_below-same s.nodes g.excess f.excess (λ v l. r.excess v l) ∙ kept.even;
}

-- where residuals and excesses are the same, flow is neither made nor lost
pub conserved-still : (s : Shape) (f g : State) → IsNetwork s → ((b : ℕ) → IsArc s b → g.residual b ≡ f.residual b) → ((v : ℕ) → v < s.nodes → g.excess v ≡ f.excess v) → IsConserved s f g
conserved-still s f g net residual excess = record {
  pairs = λ a arc. (let x = residual a arc in let y = residual (s.twin a) (net.has_twin a arc) in omega (arith, x, y));
  nodes = λ v l. (
      let e : g.excess v ≡ f.excess v = excess v l in
      let o : residual_out s g v ≡ residual_out s f v = residual_out-same s f g v residual in
      omega (arith, ints, e, o));
}

pub conserved-raised : (s : Shape) (f g : State) (amounts : List ℤ) → IsNetwork s → IsRaised s amounts f g → IsConserved s f g
conserved-raised s f g amounts net r = conserved-still s f g net r.residual r.excess
