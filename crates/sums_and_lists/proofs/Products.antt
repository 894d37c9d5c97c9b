-- The laws of + and * on whole numbers that `omega` does not read from its own set.
use Rattle.std.proofs.Common.{◌≡◌, ℕ, ◌*◌, ◌≤◌, ◌∙◌, ap, arith}
use Rattle.std.specs.Prelude.{ℤ, pos, ◌+ℤ◌, ◌-ℤ◌, ◌*ℤ◌, neg_ℤ, ◌≤ℤ◌, unsigned_abs}
use Rattle.std.proofs.lemmas.Int.{ints, unsigned_abs-mul}
use borrow.Author.Differences.{up, down, sum_is_lem, neg_is, product_is}

pub mul-add : (f a b : ℤ) → f *ℤ (a +ℤ b) ≡ f *ℤ a +ℤ f *ℤ b
mul-add f a b = omega (arith, ints, ap (λ (n : ℕ). up f * n) (sum_is_lem a b), ap (λ (n : ℕ). down f * n) (sum_is_lem a b))

pub mul-neg : (f a : ℤ) → f *ℤ neg_ℤ a ≡ neg_ℤ (f *ℤ a)
mul-neg f a =
    omega (arith, ints, ap (λ (n : ℕ). up f * n) (neg_is a).0, ap (λ (n : ℕ). down f * n) (neg_is a).0, ap (λ (n : ℕ). up f * n) (neg_is a).1, ap (λ (n : ℕ). down f * n) (neg_is a).1)

pub mul_comm : (a b : ℤ) → a *ℤ b ≡ b *ℤ a
mul_comm a b = omega (arith, ints)

pub add-mul : (a b f : ℤ) → (a +ℤ b) *ℤ f ≡ a *ℤ f +ℤ b *ℤ f
add-mul a b f = mul_comm (a +ℤ b) f ∙ mul-add f a b ∙ omega (arith, ints)

pub neg-mul : (a f : ℤ) → neg_ℤ a *ℤ f ≡ neg_ℤ (a *ℤ f)
neg-mul a f = mul_comm (neg_ℤ a) f ∙ mul-neg f a ∙ ap neg_ℤ (mul_comm f a)

-- multiplies products out, for `simp`; `omega (arith, ints)` then compares the sums
pub ruleset products = (mul-add, add-mul, mul-neg, neg-mul)

-- four differences regrouped
pub four : (f a b c d : ℤ) → f *ℤ (a +ℤ b -ℤ c -ℤ d) ≡ f *ℤ (a -ℤ c) +ℤ f *ℤ (b -ℤ d)
four f a b c d = simp products (omega (arith, ints))

-- one step of a sum by parts
pub step : (p f g a b : ℤ) → (p -ℤ a *ℤ f) +ℤ b *ℤ (f -ℤ g) ≡ (p +ℤ f *ℤ (b -ℤ a)) -ℤ b *ℤ g
step p f g a b = simp products (omega (arith, ints))

pub mul_assoc : (a b c : ℤ) → a *ℤ b *ℤ c ≡ a *ℤ (b *ℤ c)
mul_assoc a b c =
    let p = product_is a b in
    let q = product_is b c in
    omega (arith, ints, ap (λ (n : ℕ). n * up c) p.0, ap (λ (n : ℕ). n * down c) p.0, ap (λ (n : ℕ). n * up c) p.1, ap (λ (n : ℕ). n * down c) p.1, ap (λ (n : ℕ). up a * n) q.0, ap (λ (n : ℕ). down a * n) q.0, ap (λ (n : ℕ). up a * n) q.1, ap (λ (n : ℕ). down a * n) q.1)

pub at_most_abs : (z : ℤ) → z ≤ℤ pos (unsigned_abs z)
at_most_abs z = omega (arith, ints)

-- a product is at most the bound of one factor times the size of the other
pub product_at_most : (k d : ℤ) (g : ℕ) → unsigned_abs d ≤ g → (k *ℤ d) ≤ℤ pos (g * unsigned_abs k)
product_at_most k d g h =
    let e : unsigned_abs (k *ℤ d) ≤ g * unsigned_abs k = rw unsigned_abs-mul (grind arith) in
    omega (arith, ints, at_most_abs (k *ℤ d), e)
