-- Lanes: their flow at the start, their arcs, and sums over them.
use Rattle.std.proofs.Common.{◌≡◌, ℕ, zero, suc, ◌+◌, ◌*◌, ◌<◌, ◌≤◌, ◌∙◌, sym, refl, arith, List, to_z, of_z, w64, Fits, FitsSigned}
use Rattle.std.specs.Prelude.{ℤ, pos, negsuc, neg_ℤ, ◌+ℤ◌, ◌-ℤ◌, ◌≤ℤ◌, ◌<ℤ◌, ◌==◌, Option, Some, None, unsigned_abs}
use lib.Dec.{T}
use lib.Signed.{non_neg}
use Rattle.std.proofs.lemmas.Int.{ints}
use Rattle.offset_network.specs.declared.lane.Lane.{Lane}
use Rattle.offset_network.specs.Lanes.{arcs_before, arcs_of, lane_at, toward}
use Rattle.sums_and_lists.specs.Sums.{sum_below, where_true}
use Rattle.sums_and_lists.proofs.SumLemmas.{sum_below-add, sum_below-more, sum_below-none, sum_below-pick, sum_below-same}
use Rattle.sums_and_lists.proofs.CountLemmas.{count_below-more, count_below-none}

-- the flow at the start is in the lane's range, and at an end of it where the lane departs
pub toward_within : (d : ℤ) (low high : ℕ) → (neg_ℤ (pos low) ≤ℤ toward d low high) × (toward d low high ≤ℤ pos high)
toward_within (pos zero) low high = (omega (arith, ints), omega (arith, ints))
toward_within (pos (suc n)) low high = (omega (arith, ints), omega (arith, ints))
toward_within (negsuc n) low high = (omega (arith, ints), omega (arith, ints))

pub toward_up : (d : ℤ) (low high : ℕ) → pos 0 <ℤ d → toward d low high ≡ pos high
toward_up (pos zero) low high l = absurd (omega (arith, ints, l))
toward_up (pos (suc n)) low high l = refl
toward_up (negsuc n) low high l = absurd (omega (arith, ints, l))

pub toward_down : (d : ℤ) (low high : ℕ) → d <ℤ pos 0 → toward d low high ≡ neg_ℤ (pos low)
toward_down (pos n) low high l = absurd (omega (arith, ints, l))
toward_down (negsuc n) low high l = refl

-- a sum whose terms differ at one place
pub sum_added : (n place : ℕ) (x : ℤ) (f g : ℕ → ℤ) → place < n → ((v : ℕ) → v < n → g v ≡ f v +ℤ where_true (place == v) x) → sum_below n g ≡ sum_below n f +ℤ x
sum_added n place x f g l h =
    let a = sum_below-same n g (λ v. f v +ℤ where_true (place == v) x) h in
    let b = sum_below-add n f (λ v. where_true (place == v) x) in
    let c = sum_below-pick n place (λ v. x) l in
    omega (arith, ints, a, b, c)

-- the arcs of one lane more
pub arcs-more : (lanes : List (Option Lane)) (i : ℕ) → arcs_before lanes (i + 1) ≡ arcs_before lanes i + arcs_of (lane_at lanes i)
arcs-more lanes i = count_below-more i (λ j. arcs_of (lane_at lanes j))

pub arcs-none : (lanes : List (Option Lane)) → arcs_before lanes 0 ≡ 0
arcs-none lanes = count_below-none (λ j. arcs_of (lane_at lanes j))

-- no lane has more than two
pub two_at_most : (o : Option Lane) → arcs_of o ≤ 2
two_at_most None = omega arith
two_at_most (Some k) = omega arith

pub arcs-few : (lanes : List (Option Lane)) (i : ℕ) → arcs_before lanes i ≤ 2 * i
arcs-few lanes zero = omega (arith, arcs-none lanes)
arcs-few lanes (suc i) = let e : suc i ≡ i + 1 = omega arith in rw e (omega (arith, arcs-more lanes i, arcs-few lanes i, two_at_most (lane_at lanes i)))

-- a sum over arcs is a sum over lanes, which have an arc and its twin
abbrev pub both_arcs : Option Lane → ℕ → (ℕ → ℤ) → ℤ
both_arcs None a h = pos 0
both_arcs (Some k) a h = h a +ℤ h (a + 1)

pub sum_arcs : (lanes : List (Option Lane)) (i : ℕ) (h : ℕ → ℤ) → sum_below (arcs_before lanes i) h ≡ sum_below i (λ j. both_arcs (lane_at lanes j) (arcs_before lanes j) h)
sum_arcs lanes zero h = rw (arcs-none lanes) (sum_below-none h ∙ sym (sum_below-none (λ j. both_arcs (lane_at lanes j) (arcs_before lanes j) h)))
sum_arcs lanes (suc i) h =
    let e : suc i ≡ i + 1 = omega arith in
    rw (e, arcs-more lanes i) (
    let last = go (lane_at lanes i) in
    omega (arith, ints, last, sum_arcs lanes i h, sum_below-more i (λ j. both_arcs (lane_at lanes j) (arcs_before lanes j) h)))
  where
    go : (o : Option Lane) → sum_below (arcs_before lanes i + arcs_of o) h ≡ sum_below (arcs_before lanes i) h +ℤ both_arcs o (arcs_before lanes i) h
    go None = let e : arcs_before lanes i + 0 ≡ arcs_before lanes i = omega arith in rw e (omega (arith, ints))
    go (Some k) =
        let a = arcs_before lanes i in
        let e : a + 2 ≡ (a + 1) + 1 = omega arith in
        rw e (omega (arith, ints, sum_below-more (a + 1) h, sum_below-more a h))

-- the flow at the start in code at 64 bits
pub start_is : (low high : ℕ) (d x : ℤ) → low ≤ 983025 → high ≤ 983025 → x ≡ toward d low high → (to_z w64 (of_z w64 x) ≡ toward d low high) × (to_z w64 (of_z w64 (pos 0 -ℤ to_z w64 (of_z w64 x))) ≡ neg_ℤ (toward d low high))
start_is low high d x l m e = let w = toward_within d low high in (omega (arith, ints, l, m, e, w), omega (arith, ints, l, m, e, w))

-- and its size
pub start_small : (low high : ℕ) (d x : ℤ) → low ≤ 983025 → high ≤ 983025 → x ≡ toward d low high → (unsigned_abs (to_z w64 (of_z w64 x)) ≤ 983025) × (unsigned_abs (to_z w64 (of_z w64 (pos 0 -ℤ to_z w64 (of_z w64 x)))) ≤ 983025)
start_small low high d x l m e = let w = toward_within d low high in (omega (arith, ints, l, m, e, w), omega (arith, ints, l, m, e, w))

-- and what is left of its arc and of its twin
pub forward_is : (low high : ℕ) (d w x : ℤ) → (low ≤ 983025) × (high ≤ 983025) → w ≡ pos high → x ≡ toward d low high → to_z w64 (of_z w64 (to_z w64 (of_z w64 w) -ℤ to_z w64 (of_z w64 x))) ≡ pos high -ℤ toward d low high
forward_is low high d w x l e f = let t = toward_within d low high in omega (arith, ints, l, e, f, t)

pub back_is : (low high : ℕ) (d w x : ℤ) → (low ≤ 983025) × (high ≤ 983025) → w ≡ pos low → x ≡ toward d low high → to_z w64 (of_z w64 (to_z w64 (of_z w64 w) +ℤ to_z w64 (of_z w64 x))) ≡ pos low +ℤ toward d low high
back_is low high d w x l e f = let t = toward_within d low high in omega (arith, ints, l, e, f, t)

-- a number from 0 to the greatest range as an unsigned one
pub unsigned_is : (z x : ℤ) → z ≡ x → pos 0 ≤ℤ x → x ≤ℤ pos 1966050 → (T (non_neg z) × Fits w64 (unsigned_abs z)) × (pos (unsigned_abs z) ≡ x)
unsigned_is z x e l m = rw e (go x l m)
  where
    go : (x : ℤ) → pos 0 ≤ℤ x → x ≤ℤ pos 1966050 → (T (non_neg x) × Fits w64 (unsigned_abs x)) × (pos (unsigned_abs x) ≡ x)
    go (pos n) l m = ((tt, omega (arith, ints, m)), refl)
    go (negsuc n) l m = absurd (omega (arith, ints, l))

-- a departure turned round
pub minus_is : (d : ℤ) → unsigned_abs d ≤ 16777218 → FitsSigned w64 (pos 0 -ℤ to_z w64 (of_z w64 d)) × (to_z w64 (of_z w64 (pos 0 -ℤ to_z w64 (of_z w64 d))) ≡ neg_ℤ d)
minus_is d l = (omega (arith, ints, l), omega (arith, ints, l))
