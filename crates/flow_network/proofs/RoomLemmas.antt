-- A push stays within the ranges of the numbers.
use Rattle.std.proofs.Common.{◌≡◌, ℕ, ◌+◌, ◌<◌, ◌≤◌, ◌^◌, sym, ◌∙◌, ap, refl, arith, Bool, true, false, inl, inr, subst}
use Rattle.std.specs.Prelude.{◌==◌, ◌&&◌, ℤ, pos, ◌+ℤ◌, ◌-ℤ◌, ◌≤ℤ◌, neg_ℤ, if◌then◌else◌, unsigned_abs}
use Rattle.std.proofs.lemmas.Int.{ints}
use Rattle.std.proofs.lemmas.Bool.Decides.{eqb_tells}
use Rattle.std.proofs.lemmas.Bool.{cases_Bool, ne_eqb, eq-eqb, eqb-true, false≢true}
use Rattle.flow_network.specs.Nets.{Shape, State, IsArc, IsNetwork, tail_of}
use Rattle.flow_network.specs.Moves.{IsPushed, out_term, residual_out}
use Rattle.flow_network.specs.Growing.{total_residual}
use Rattle.flow_network.specs.Lists.{HasRoom}
use Rattle.flow_network.proofs.PushLemmas.{conserved-pushed, residual_out-same}
use Rattle.sums_and_lists.specs.Sums.{sum_below, where_true}
use Rattle.sums_and_lists.proofs.SumLemmas.{sum_below-one, sum_below-two, sum_below-same, sum_below-le, sum_below-zeros}

-- a sum of terms that are at least 0 is at least each of them, and at least 0
pub term-le : (n i : ℕ) (f : ℕ → ℤ) → i < n → ((k : ℕ) → k < n → pos 0 ≤ℤ f k) → f i ≤ℤ sum_below n f
term-le n i f l h =
    let z = λ (k : ℕ). where_true (k == i) (f i) in
    let none = λ (k : ℕ). pos 0 in
    let e : sum_below n z ≡ sum_below n none +ℤ f i = sum_below-one n i (f i) none z l (λ k m. omega (arith, ints)) in
    let o : sum_below n none ≡ pos 0 = sum_below-zeros n none (λ k m. refl) in
    let le : sum_below n z ≤ℤ sum_below n f = sum_below-le n z f (λ k m. (
    elim (eqb_tells k i) [
      | inl t ↦ rw t.0 (subst (λ (j : ℕ). f i ≤ℤ f j) (sym t.1) (omega (arith, ints)))
      | inr t ↦ rw t.0 (h k m)
    ])) in
    omega (arith, ints, e, o, le)

pub sum-not_below : (n : ℕ) (f : ℕ → ℤ) → ((k : ℕ) → k < n → pos 0 ≤ℤ f k) → pos 0 ≤ℤ sum_below n f
sum-not_below n f h =
    let none = λ (k : ℕ). pos 0 in
    let o : sum_below n none ≡ pos 0 = sum_below-zeros n none (λ k m. refl) in
    let le : sum_below n none ≤ℤ sum_below n f = sum_below-le n none f h in
    omega (arith, ints, o, le)

pub term-not_below : (t : Bool) (n : ℕ) → pos 0 ≤ℤ where_true t (pos n)
term-not_below true n = omega (arith, ints)
term-not_below false n = omega (arith, ints)

pub residual-le : (s : Shape) (f : State) (a : ℕ) → IsNetwork s → IsArc s a → pos (f.residual a) ≤ℤ total_residual s f
residual-le s f a net arc =
    let e : where_true (s.is_arc a) (pos (f.residual a)) ≡ pos (f.residual a) = rw arc refl in
    let le = term-le s.arcs a (λ k. where_true (s.is_arc k) (pos (f.residual k))) (net.below a arc) (λ k l. term-not_below (s.is_arc k) (f.residual k)) in
    rw e at le

-- a term with both tests is at most the one with the first
pub both-le : (t u : Bool) (n : ℕ) → where_true (t && u) (pos n) ≤ℤ where_true t (pos n)
both-le true true n = omega (arith, ints)
both-le true false n = omega (arith, ints)
both-le false u n = omega (arith, ints)

pub out-none : (t u : Bool) (n : ℕ) → u ≡ false → where_true (t && u) (pos n) ≡ pos 0
out-none true u n h = rw h refl
out-none false u n h = refl

pub signed-same : (u v : Bool) (n k m : ℕ) → n + (if u then m else 0) ≡ k + (if v then m else 0) → pos n +ℤ where_true u (pos m) ≡ pos k +ℤ where_true v (pos m)
signed-same true true n k m h = omega (arith, ints, h)
signed-same true false n k m h = omega (arith, ints, h)
signed-same false true n k m h = omega (arith, ints, h)
signed-same false false n k m h = omega (arith, ints, h)

-- an arc's residual is among those that start at its tail
pub residual-le_left : (s : Shape) (f : State) (a : ℕ) → IsNetwork s → IsArc s a → pos (f.residual a) ≤ℤ residual_out s f (tail_of s a)
residual-le_left s f a net arc =
    let e : out_term s f (tail_of s a) a ≡ pos (f.residual a) = rw (arc, eq-eqb (tail_of s a) (tail_of s a) refl) refl in
    let le = term-le s.arcs a (out_term s f (tail_of s a)) (net.below a arc) (λ k l. term-not_below (s.is_arc k && (tail_of s k == tail_of s a)) (f.residual k)) in
    rw e at le

-- what starts at a node, with an arc that starts elsewhere
pub left-le : (s : Shape) (f : State) (a v : ℕ) → IsNetwork s → IsArc s a → (tail_of s a ≡ v → ⊥) → (residual_out s f v +ℤ pos (f.residual a)) ≤ℤ total_residual s f
left-le s f a v net arc ne =
    let z = λ (k : ℕ). out_term s f v k +ℤ where_true (k == a) (pos (f.residual a)) in
    let all = λ (k : ℕ). where_true (s.is_arc k) (pos (f.residual k)) in
    let e : sum_below s.arcs z ≡ residual_out s f v +ℤ pos (f.residual a) = sum_below-one s.arcs a (pos (f.residual a)) (out_term s f v) z (net.below a arc) (λ k l. refl) in
    let le : sum_below s.arcs z ≤ℤ sum_below s.arcs all = sum_below-le s.arcs z all (λ k l. (
    elim (eqb_tells k a) [
      | inl t ↦ (
          let starts : (tail_of s k == v) ≡ false = ne_eqb (tail_of s k) v (λ e. ne (ap (λ (c : ℕ). tail_of s c) (sym t.1) ∙ e)) in
          let r : where_true (s.is_arc k) (pos (f.residual k)) ≡ pos (f.residual a) = rw t.1 (rw arc refl) in
          let o : out_term s f v k ≡ pos 0 = out-none (s.is_arc k) (tail_of s k == v) (f.residual k) starts in
          let w : where_true (k == a) (pos (f.residual a)) ≡ pos (f.residual a) = rw t.0 refl in
          omega (arith, ints, r, o, w))
      | inr t ↦ (
          let w : where_true (k == a) (pos (f.residual a)) ≡ pos 0 = rw t.0 refl in
          let o : out_term s f v k ≤ℤ where_true (s.is_arc k) (pos (f.residual k)) = both-le (s.is_arc k) (tail_of s k == v) (f.residual k) in
          omega (arith, ints, o, w))
    ])) in
    omega (arith, ints, e, le)

-- the total stays
all-term : (t u v : Bool) (n k m : ℕ) → (u ≡ true → t ≡ true) → (v ≡ true → t ≡ true) → (t ≡ true → n + (if u then m else 0) ≡ k + (if v then m else 0)) → where_true t (pos n) +ℤ where_true u (pos m) ≡ where_true t (pos k) +ℤ where_true v (pos m)
all-term true u v n k m x y h = signed-same u v n k m (h refl)
all-term false true v n k m x y h = absurd (false≢true (x refl))
all-term false false true n k m x y h = absurd (false≢true (y refl))
all-term false false false n k m x y h = refl

pub all-pushed : (s : Shape) (a m : ℕ) (f g : State) → IsNetwork s → IsArc s a → IsPushed s a m f g → total_residual s g ≡ total_residual s f
all-pushed s a m f g net arc p =
    let all = λ (h : State) (k : ℕ). where_true (s.is_arc k) (pos (h.residual k)) in
    let e : total_residual s g +ℤ pos m ≡ total_residual s f +ℤ pos m =
    sum_below-two s.arcs a (s.twin a) (pos m) (pos m) (all f) (all g) (net.below a arc) (net.below (s.twin a) (net.has_twin a arc))
    (λ k l. all-term (s.is_arc k) (k == a) (k == s.twin a) (g.residual k) (f.residual k) m (λ e. rw (eqb-true k a e) arc) (λ e. rw (eqb-true k (s.twin a) e) (net.has_twin a arc)) (p.residual k)) in
    omega (arith, ints, e)

pub room-pushed : (s : Shape) (a m : ℕ) (f g : State) → IsNetwork s → IsArc s a → IsPushed s a m f g → HasRoom s f → HasRoom s g
room-pushed s a m f g net arc p room =
    let kept = conserved-pushed s a m f g net arc p in
    let all : total_residual s g ≡ total_residual s f = all-pushed s a m f g net arc p in
    record {
      total = rw all room.total;
      above = λ v l. (let e : g.excess v -ℤ residual_out s g v ≡ f.excess v -ℤ residual_out s f v = kept.nodes v l in rw (e, all) (room.above v l));
      beneath = λ v l. (let e : g.excess v -ℤ residual_out s g v ≡ f.excess v -ℤ residual_out s f v = kept.nodes v l in rw e (room.beneath v l));
      costs = room.costs;
      potentials = λ v l. rw (p.potential v l) (room.potentials v l);
    }

-- the conditions of the two moves
pub amount-fits : (s : Shape) (a m : ℕ) (f : State) → IsNetwork s → IsArc s a → HasRoom s f → m ≤ f.residual a → m ≤ 2 ^ 62
amount-fits s a m f net arc room l = omega (arith, ints, residual-le s f a net arc, room.total)

pub low-fits : (s : Shape) (a m : ℕ) (f : State) → IsNetwork s → IsArc s a → HasRoom s f → m ≤ f.residual a → neg_ℤ (pos (2 ^ 62)) ≤ℤ (f.excess (tail_of s a) -ℤ pos m)
low-fits s a m f net arc room l =
    let x = residual-le_left s f a net arc in
    let y = room.beneath (tail_of s a) (net.ends (s.twin a) (net.has_twin a arc)) in
    omega (arith, ints, x, y)

pub high-fits : (s : Shape) (a m : ℕ) (f : State) → IsNetwork s → IsArc s a → HasRoom s f → m ≤ f.residual a → (tail_of s a ≡ s.head a → ⊥) → (f.excess (s.head a) +ℤ pos m) ≤ℤ pos (2 ^ 62)
high-fits s a m f net arc room l ne =
    let x = left-le s f a (s.head a) net arc ne in
    let y = room.above (s.head a) (net.ends a arc) in
    omega (arith, ints, x, y)

-- a raise stays within them too
pub room-raised : (s : Shape) (f g : State) → ((b : ℕ) → IsArc s b → g.residual b ≡ f.residual b) → ((v : ℕ) → v < s.nodes → g.excess v ≡ f.excess v) → ((v : ℕ) → v < s.nodes → unsigned_abs (g.potential v) ≤ 2 ^ 61) → HasRoom s f → HasRoom s g
room-raised s f g res exc pot room =
    let all : total_residual s g ≡ total_residual s f = sum_below-same s.arcs (λ k. where_true (s.is_arc k) (pos (g.residual k))) (λ k. where_true (s.is_arc k) (pos (f.residual k))) (λ k l. (
    elim (cases_Bool (s.is_arc k)) [
      | inl arc ↦ ap (λ (r : ℕ). where_true (s.is_arc k) (pos r)) (res k arc)
      | inr none ↦ rw none refl
    ])) in
    let out = λ (v : ℕ). residual_out-same s f g v res in
    record {
      total = rw all room.total;
      above = λ v l. (let o : residual_out s g v ≡ residual_out s f v = out v in let e : g.excess v ≡ f.excess v = exc v l in rw (o, e, all) (room.above v l));
      beneath = λ v l. (let o : residual_out s g v ≡ residual_out s f v = out v in let e : g.excess v ≡ f.excess v = exc v l in rw (o, e) (room.beneath v l));
      costs = room.costs;
      potentials = pot;
    }
