-- Counts below a bound, of several numbers at each place.
use Rattle.std.proofs.Common.{◌≡◌, ℕ, zero, suc, ◌+◌, ◌*◌, ◌<◌, ◌≤◌, inl, inr, refl, subst, arith}
use Rattle.sums_and_lists.specs.Sums.{count_below}
use Rattle.sums_and_lists.proofs.CountLemmas.{count_below-zeros}
use Rattle.sums_and_lists.proofs.Orders.{below_at_above, below_or_last}

pub count_below-add : (n : ℕ) (f g : ℕ → ℕ) → count_below n (λ i. f i + g i) ≡ count_below n f + count_below n g
unfolding count_below
count_below-add zero f g = omega arith
count_below-add (suc n) f g = omega (arith, count_below-add n f g)

pub count_below-same : (n : ℕ) (f g : ℕ → ℕ) → ((i : ℕ) → i < n → f i ≡ g i) → count_below n f ≡ count_below n g
unfolding count_below
count_below-same zero f g same = refl
count_below-same (suc n) f g same = omega (arith, count_below-same n f g (λ i l. same i (omega (arith, l))), same n (omega arith))

-- no more, where each number is no more; and less, where one is less
pub count_below-no_more : (n : ℕ) (f g : ℕ → ℕ) → ((i : ℕ) → f i ≤ g i) → count_below n f ≤ count_below n g
unfolding count_below
count_below-no_more zero f g le = omega arith
count_below-no_more (suc n) f g le = omega (arith, count_below-no_more n f g le, le n)

pub count_below-less : (n k : ℕ) (f g : ℕ → ℕ) → k < n → ((i : ℕ) → f i ≤ g i) → f k + 1 ≤ g k → count_below n f + 1 ≤ count_below n g
unfolding count_below
count_below-less zero k f g l le less = absurd (omega (arith, l))
count_below-less (suc n) k f g l le less = elim (below_or_last k n (omega (arith, l))) [
  | inl m ↦ omega (arith, count_below-less n k f g m le less, le n)
  | inr e ↦ (let last : f n + 1 ≤ g n = subst (λ (i : ℕ). f i + 1 ≤ g i) e less in omega (arith, count_below-no_more n f g le, last))
]

pub count_below-most : (n m : ℕ) (f : ℕ → ℕ) → ((i : ℕ) → f i ≤ m) → count_below n f ≤ n * m
unfolding count_below
count_below-most zero m f le = omega arith
count_below-most (suc n) m f le = omega (arith, count_below-most n m f le, le n)

-- no more than one number, where the others are 0
pub count_below-single : (n k m : ℕ) (f : ℕ → ℕ) → ((i : ℕ) → (i ≡ k → ⊥) → f i ≡ 0) → f k ≤ m → count_below n f ≤ m
unfolding count_below
count_below-single zero k m f none le = omega arith
count_below-single (suc n) k m f none le = elim (below_at_above n k) [
  | inl l ↦ omega (arith, count_below-single n k m f none le, none n (λ e. omega (arith, l, e)))
  | inr (inl e) ↦ (let last : f n ≤ m = subst (λ (i : ℕ). f i ≤ m) (let s : k ≡ n = omega (arith, e) in s) le in omega (arith, count_below-zeros n f (λ i l. none i (λ s. omega (arith, l, s, e))), last))
  | inr (inr l) ↦ omega (arith, count_below-single n k m f none le, none n (λ e. omega (arith, l, e)))
]
