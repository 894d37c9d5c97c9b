-- Sums over the numbers below a bound.
use Rattle.std.proofs.Common.{◌≡◌, ℕ, zero, suc, ◌+◌, ◌-◌, ◌<◌, ◌≤◌, sym, ◌∙◌, ap, refl, arith, Bool, true, false, inl, inr}
use Rattle.std.specs.Prelude.{◌==◌, ◌&&◌, ℤ, pos, ◌+ℤ◌, ◌*ℤ◌, ◌≤ℤ◌}
use Rattle.std.proofs.Math.IntN.{zero-*ℤ}
use Rattle.std.proofs.lemmas.Int.{ints}
use Rattle.std.proofs.lemmas.Bool.Decides.{eqb_tells}
use Rattle.std.proofs.lemmas.Bool.{ne_eqb, eq-eqb}
use Rattle.sums_and_lists.specs.Sums.{sum_below, where_true}
use Rattle.sums_and_lists.proofs.Products.{add-mul, mul-add}

pub sum_below-none : (f : ℕ → ℤ) → sum_below 0 f ≡ pos 0
unfolding sum_below
sum_below-none f = refl

pub sum_below-more : (n : ℕ) (f : ℕ → ℤ) → sum_below (n + 1) f ≡ sum_below n f +ℤ f n
unfolding sum_below
sum_below-more n f = let e : n + 1 ≡ suc n = omega arith in rw e

-- equal terms
pub sum_below-same : (n : ℕ) (f g : ℕ → ℤ) → ((i : ℕ) → i < n → f i ≡ g i) → sum_below n f ≡ sum_below n g
unfolding sum_below
sum_below-same zero f g h = refl
sum_below-same (suc n) f g h = omega (arith, ints, sum_below-same n f g (λ i l. h i (omega arith)), h n (omega arith))

-- terms that are no larger
pub sum_below-le : (n : ℕ) (f g : ℕ → ℤ) → ((i : ℕ) → i < n → f i ≤ℤ g i) → sum_below n f ≤ℤ sum_below n g
unfolding sum_below
sum_below-le zero f g h = omega (arith, ints)
sum_below-le (suc n) f g h = omega (arith, ints, sum_below-le n f g (λ i l. h i (omega arith)), h n (omega arith))

-- a sum of sums
pub sum_below-add : (n : ℕ) (f g : ℕ → ℤ) → sum_below n (λ i. f i +ℤ g i) ≡ sum_below n f +ℤ sum_below n g
unfolding sum_below
sum_below-add zero f g = refl
sum_below-add (suc n) f g = omega (arith, ints, sum_below-add n f g)

-- terms that are all 0 add nothing
pub sum_below-zeros : (n : ℕ) (f : ℕ → ℤ) → ((i : ℕ) → i < n → f i ≡ pos 0) → sum_below n f ≡ pos 0
unfolding sum_below
sum_below-zeros zero f h = refl
sum_below-zeros (suc n) f h = omega (arith, ints, sum_below-zeros n f (λ i l. h i (omega arith)), h n (omega arith))

pub where_true-le : (t : Bool) (a b : ℤ) → (t ≡ true → a ≤ℤ b) → where_true t a ≤ℤ where_true t b
where_true-le true a b h = h refl
where_true-le false a b h = omega (arith, ints)

pub where_true-same : (t : Bool) (a b : ℤ) → (t ≡ true → a ≡ b) → where_true t a ≡ where_true t b
where_true-same true a b h = h refl
where_true-same false a b h = refl

-- ---- sums of sums, and products taken out
pub sum_below-scale : (n : ℕ) (c : ℤ) (f : ℕ → ℤ) → sum_below n (λ i. c *ℤ f i) ≡ c *ℤ sum_below n f
unfolding sum_below
sum_below-scale zero c f = omega (arith, ints)
sum_below-scale (suc n) c f = omega (arith, ints, sum_below-scale n c f, mul-add c (sum_below n f) (f n))

pub where_true-add : (t : Bool) (a b : ℤ) → where_true t (a +ℤ b) ≡ where_true t a +ℤ where_true t b
where_true-add true a b = refl
where_true-add false a b = refl

pub where_true-zero : (t : Bool) → where_true t (pos 0) ≡ pos 0
where_true-zero true = refl
where_true-zero false = refl

pub no_number : (t : Bool) (z : ℤ) → t ≡ false → where_true t z ≡ pos 0
no_number t z h = rw h

pub picked : (t : Bool) (z : ℤ) → t ≡ true → where_true t z ≡ z
picked t z h = rw h

-- the one term that is picked
pub sum_below-pick : (n v : ℕ) (g : ℕ → ℤ) → v < n → sum_below n (λ i. where_true (v == i) (g i)) ≡ g v
unfolding sum_below
sum_below-pick zero v g l = absurd (omega arith)
sum_below-pick (suc n) v g l =
    elim (eqb_tells v n) [
      | inl t ↦ (
          let z : sum_below n (λ i. where_true (v == i) (g i)) ≡ pos 0 = sum_below-zeros n (λ i. where_true (v == i) (g i)) (λ i m. no_number (v == i) (g i) (ne_eqb v i (omega (arith, t.1)))) in
          let k : where_true (v == n) (g n) ≡ g v = picked (v == n) (g n) t.0 ∙ ap g (sym t.1) in
          omega (arith, ints, z, k))
      | inr t ↦ (
          let z : sum_below n (λ i. where_true (v == i) (g i)) ≡ g v = sum_below-pick n v g (omega (arith, t.1)) in
          let k : where_true (v == n) (g n) ≡ pos 0 = no_number (v == n) (g n) t.0 in
          omega (arith, ints, z, k))
    ]

pub where_true-scale : (t : Bool) (c a : ℤ) → where_true t (c *ℤ a) ≡ c *ℤ where_true t a
where_true-scale true c a = refl
where_true-scale false c a = omega (arith, ints)

-- ---- sums of which only a part is not 0
pub sum_below-part : (a n : ℕ) (f : ℕ → ℤ) → ((i : ℕ) → a ≤ i → i < a + n → f i ≡ pos 0) → sum_below (a + n) f ≡ sum_below a f
sum_below-part a zero f z = let e : a + 0 ≡ a = omega arith in rw e
sum_below-part a (suc n) f z =
    let e : a + suc n ≡ (a + n) + 1 = omega arith in
    rw e (omega (arith, ints, sum_below-more (a + n) f, sum_below-part a n f (λ i l m. z i l (omega arith)), z (a + n) (omega arith) (omega arith)))

pub sum_below-upto : (a b : ℕ) (f : ℕ → ℤ) → a ≤ b → ((i : ℕ) → a ≤ i → i < b → f i ≡ pos 0) → sum_below b f ≡ sum_below a f
sum_below-upto a b f l z =
    let e : b ≡ a + (b - a) = omega arith in
    rw e (sum_below-part a (b - a) f (λ i m n. z i m (omega arith)))

-- terms that differ at one place
pub sum_below-one : (n i : ℕ) (x : ℤ) (f g : ℕ → ℤ) → i < n → ((k : ℕ) → k < n → g k ≡ f k +ℤ where_true (k == i) x) → sum_below n g ≡ sum_below n f +ℤ x
unfolding sum_below
sum_below-one zero i x f g l h = absurd (omega arith)
sum_below-one (suc n) i x f g l h =
    elim (eqb_tells n i) [
      | inl t ↦ (
          let z : sum_below n g ≡ sum_below n f = sum_below-same n g f (λ k m. let e : (k == i) ≡ false = ne_eqb k i (λ (q : k ≡ i). omega (arith, t.1)) in h k (omega arith) ∙ rw e (omega (arith, ints))) in
          let k : g n ≡ f n +ℤ x = h n (omega arith) ∙ rw t.0 in
          omega (arith, ints, z, k))
      | inr t ↦ (
          let z : sum_below n g ≡ sum_below n f +ℤ x = sum_below-one n i x f g (omega (arith, t.1)) (λ k m. h k (omega arith)) in
          let k : g n ≡ f n = h n (omega arith) ∙ rw t.0 (omega (arith, ints)) in
          omega (arith, ints, z, k))
    ]

-- f and g differ by x at place i and by y at place j
pub sum_below-two : (n i j : ℕ) (x y : ℤ) (f g : ℕ → ℤ) → i < n → j < n → ((k : ℕ) → k < n → g k +ℤ where_true (k == i) x ≡ f k +ℤ where_true (k == j) y) → sum_below n g +ℤ x ≡ sum_below n f +ℤ y
sum_below-two n i j x y f g li lj h =
    let m = λ (k : ℕ). f k +ℤ where_true (k == j) y in
    let a : sum_below n m ≡ sum_below n f +ℤ y = sum_below-one n j y f m lj (λ k l. refl) in
    let b : sum_below n m ≡ sum_below n g +ℤ x = sum_below-one n i x g m li (λ k l. sym (h k l)) in
    sym b ∙ a

pub same_tests : (x y u v : ℕ) → (x ≡ y → u ≡ v) → (u ≡ v → x ≡ y) → (x == y) ≡ (u == v)
same_tests x y u v to from =
    elim (eqb_tells u v) [
      | inl t ↦ eq-eqb x y (from t.1) ∙ sym t.0
      | inr t ↦ ne_eqb x y (λ e. t.1 (to e)) ∙ sym t.0
    ]

pub where_zero : (b : Bool) (z : ℤ) → z ≡ pos 0 → where_true b z ≡ pos 0
where_zero true z e = e
where_zero false z e = refl

pub where_both : (t u : Bool) (z : ℤ) → where_true (t && u) z ≡ where_true t (where_true u z)
where_both true u z = refl
where_both false u z = refl

-- a product taken out on the right
pub sum_below-times : (n : ℕ) (p : ℤ) (f : ℕ → ℤ) → sum_below n (λ i. f i *ℤ p) ≡ sum_below n f *ℤ p
unfolding sum_below
sum_below-times zero p f = sym (zero-*ℤ p)
sum_below-times (suc n) p f = (let e = sum_below-times n p f in let k = add-mul (sum_below n f) (f n) p in omega (arith, ints, e, k))

-- a sum of sums in the other order
pub sum_below-swap : (n m : ℕ) (g : ℕ → ℕ → ℤ) → sum_below n (λ a. sum_below m (g a)) ≡ sum_below m (λ b. sum_below n (λ a. g a b))
unfolding sum_below
sum_below-swap zero m g = sym (sum_below-zeros m (λ b. pos 0) (λ b l. refl))
sum_below-swap (suc n) m g =
    let e = sum_below-swap n m g in
    let p : sum_below m (λ b. sum_below (suc n) (λ a. g a b)) ≡ sum_below m (λ b. sum_below n (λ a. g a b)) +ℤ sum_below m (g n) = sum_below-add m (λ b. sum_below n (λ a. g a b)) (g n) in
    omega (arith, ints, e, p)
