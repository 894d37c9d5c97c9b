-- Counts below a bound.
use Rattle.std.proofs.Common.{◌≡◌, ℕ, zero, suc, ◌+◌, ◌-◌, ◌*◌, ◌<◌, ◌≤◌, ◌∙◌, refl, arith}
use Rattle.sums_and_lists.specs.Sums.{count_below}

pub count_below-more : (n : ℕ) (f : ℕ → ℕ) → count_below (n + 1) f ≡ count_below n f + f n
unfolding count_below
count_below-more n f = let e : n + 1 ≡ suc n = omega arith in rw e

pub count_below-none : (f : ℕ → ℕ) → count_below 0 f ≡ 0
unfolding count_below
count_below-none f = refl

pub count_below-grows : (a n : ℕ) (f : ℕ → ℕ) → count_below a f ≤ count_below (a + n) f
count_below-grows a zero f = let e : a + 0 ≡ a = omega arith in rw e (omega arith)
count_below-grows a (suc n) f =
    let e : a + suc n ≡ (a + n) + 1 = omega arith in
    rw e (omega (arith, count_below-more (a + n) f, count_below-grows a n f))

pub count_below-le : (a b : ℕ) (f : ℕ → ℕ) → a ≤ b → count_below a f ≤ count_below b f
count_below-le a b f l = let e : b ≡ a + (b - a) = omega arith in rw e (count_below-grows a (b - a) f)

pub count_below-zeros : (n : ℕ) (f : ℕ → ℕ) → ((i : ℕ) → i < n → f i ≡ 0) → count_below n f ≡ 0
unfolding count_below
count_below-zeros zero f h = refl
count_below-zeros (suc n) f h = omega (arith, count_below-zeros n f (λ i l. h i (omega arith)), h n (omega arith))

-- nothing below a, and then m times k
pub count_below-from : (a m k : ℕ) (f : ℕ → ℕ) → ((i : ℕ) → i < a → f i ≡ 0) → ((i : ℕ) → a ≤ i → i < a + m → f i ≡ k) → count_below (a + m) f ≡ m * k
count_below-from a zero k f z h =
    let e : a + 0 ≡ a = omega arith in
    rw e (omega (arith, count_below-zeros a f z))
count_below-from a (suc m) k f z h =
    let e : a + suc m ≡ (a + m) + 1 = omega arith in
    rw e (omega (arith, count_below-more (a + m) f, count_below-from a m k f z (λ i l n. h i l (omega arith)), h (a + m) (omega arith) (omega arith)))

-- nothing from b on
pub count_below-rest : (b n : ℕ) (f : ℕ → ℕ) → ((i : ℕ) → b ≤ i → i < b + n → f i ≡ 0) → count_below (b + n) f ≡ count_below b f
count_below-rest b zero f z = let e : b + 0 ≡ b = omega arith in rw e refl
count_below-rest b (suc n) f z =
    let e : b + suc n ≡ (b + n) + 1 = omega arith in
    rw e (omega (arith, count_below-more (b + n) f, count_below-rest b n f (λ i l m. z i l (omega arith)), z (b + n) (omega arith) (omega arith)))

-- k at each place from a below b, and 0 elsewhere: below a place between, and in all
pub count_between : (a b x k : ℕ) (f : ℕ → ℕ) → a ≤ x → x ≤ b → ((i : ℕ) → i < a → f i ≡ 0) → ((i : ℕ) → a ≤ i → i < b → f i ≡ k) → count_below x f ≡ (x - a) * k
count_between a b x k f l m z h =
    let e : x ≡ a + (x - a) = omega arith in
    let c : count_below (a + (x - a)) f ≡ (x - a) * k = count_below-from a (x - a) k f z (λ i p q. h i p (omega arith)) in
    rw (← e) at c

pub count_all : (a b n k : ℕ) (f : ℕ → ℕ) → a ≤ b → b ≤ n → ((i : ℕ) → i < a → f i ≡ 0) → ((i : ℕ) → a ≤ i → i < b → f i ≡ k) → ((i : ℕ) → b ≤ i → i < n → f i ≡ 0) → count_below n f ≡ (b - a) * k
count_all a b n k f l m z h y =
    let e : n ≡ b + (n - b) = omega arith in
    let c : count_below (b + (n - b)) f ≡ count_below b f = count_below-rest b (n - b) f (λ i p q. y i p (omega arith)) in
    (rw (← e) at c) ∙ count_between a b b k f l (omega arith) z h
