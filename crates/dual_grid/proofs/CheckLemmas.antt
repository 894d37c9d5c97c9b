-- What a check of corrections and faces finds, step by step.
use Rattle.std.proofs.Common.{◌≡◌, ℕ, zero, suc, ◌+◌, ◌-◌, ◌*◌, ◌<◌, ◌≤◌, ◌∙◌, ap, sym, refl, arith, inl, inr, nat_eq, to_z, of_z, w64, SFits}
use Rattle.std.specs.Prelude.{neg_ℤ, ℤ, pos, ◌+ℤ◌, ◌-ℤ◌, ◌*ℤ◌, IsTrue, unsigned_abs, ◌≤ℤ◌, ◌<ℤ◌}
use Rattle.std.proofs.lemmas.Bool.{eqb-true}
use Rattle.std.proofs.lemmas.Int.{ints, to_z-of_z}
use Rattle.raster_model.specs.Raster.{over, steps, steps_of}
use Rattle.sums_and_lists.proofs.Products.{products}
use Rattle.dual_grid.specs.Building.{IsHeldBy}
use Rattle.dual_grid.specs.Grids.{amount_of}
use Rattle.dual_grid.specs.Problems.{IsTight}
use Rattle.dual_grid.proofs.FlowLemmas.{amount_parts}
use Rattle.sums_and_lists.proofs.Orders.{below_or_last}

-- one number more of those from a on
pub one_more : (P : ℕ → Type 0) (a n : ℕ) → ((k : ℕ) → a ≤ k → k < n → P k) → P n → (k : ℕ) → a ≤ k → k < n + 1 → P k
one_more P a n before here k l m = elim (below_or_last k n m) [ inl i ↦ before k l i | inr e ↦ rw e here ]

-- numbers that code compares are the same
pub signed_same : (a b : ℤ) → SFits w64 a → SFits w64 b → IsTrue (nat_eq (of_z w64 a) (of_z w64 b)) → a ≡ b
signed_same a b p q e = sym (to_z-of_z w64 a p) ∙ ap (λ (n : ℕ). to_z w64 n) (eqb-true (of_z w64 a) (of_z w64 b) e) ∙ to_z-of_z w64 b q

-- a sum in code at 64 bits
abbrev pub around : ℤ → ℤ → ℤ → ℤ → ℤ
around a b c d = to_z w64 (of_z w64 (to_z w64 (of_z w64 (to_z w64 (of_z w64 a) +ℤ to_z w64 (of_z w64 b))) -ℤ to_z w64 (of_z w64 c))) -ℤ to_z w64 (of_z w64 d)

pub around_is : (a b c d : ℤ) → unsigned_abs a ≤ 2147483648 → unsigned_abs b ≤ 2147483648 → unsigned_abs c ≤ 2147483648 → unsigned_abs d ≤ 2147483648 → around a b c d ≡ a +ℤ b -ℤ c -ℤ d
around_is a b c d p q r t =
    let i : to_z w64 (of_z w64 a) ≡ a = omega (arith, ints, p) in
    let j : to_z w64 (of_z w64 b) ≡ b = omega (arith, ints, q) in
    let k : to_z w64 (of_z w64 c) ≡ c = omega (arith, ints, r) in
    let l : to_z w64 (of_z w64 d) ≡ d = omega (arith, ints, t) in
    let first : to_z w64 (of_z w64 (a +ℤ b)) ≡ a +ℤ b = omega (arith, ints, p, q) in
    let second : to_z w64 (of_z w64 (a +ℤ b -ℤ c)) ≡ a +ℤ b -ℤ c = omega (arith, ints, p, q, r) in
    rw (i, j, k, l, first, second) refl

-- a product of numbers of one direction
pub forth_product : (k d : ℤ) → pos 0 ≤ℤ k → pos 0 ≤ℤ d → k *ℤ d ≡ pos (unsigned_abs k * unsigned_abs d)
forth_product k d p q = signs k d (unsigned_abs k) (unsigned_abs d) (omega (arith, ints, p)) (omega (arith, ints, q))
  where
    signs : (k d : ℤ) (m n : ℕ) → k ≡ pos m → d ≡ pos n → k *ℤ d ≡ pos (m * n)
    signs k d m n e f = rw (e, f) refl

pub back_product : (k d : ℤ) → k ≤ℤ pos 0 → d ≤ℤ pos 0 → k *ℤ d ≡ pos (unsigned_abs k * unsigned_abs d)
back_product k d p q = signs k d (unsigned_abs k) (unsigned_abs d) (omega (arith, ints, p)) (omega (arith, ints, q))
  where
    both_turned : (a b k d : ℤ) → k ≡ neg_ℤ a → d ≡ neg_ℤ b → k *ℤ d ≡ a *ℤ b
    both_turned a b k d p q = rw (p, q) (simp products (omega (arith, ints)))

    signs : (k d : ℤ) (m n : ℕ) → k ≡ neg_ℤ (pos m) → d ≡ neg_ℤ (pos n) → k *ℤ d ≡ pos (m * n)
    signs k d m n e f = both_turned (pos m) (pos n) k d e f

-- where nothing is corrected, and where one cycle is
pub none_tight : (steep w : ℕ) (d k : ℤ) → k ≡ pos 0 → unsigned_abs d ≤ steep * w → unsigned_abs d ≤ w → IsTight steep w d k
none_tight steep w d k e m l = record { within = m; whole = whole }
  where
    whole : k *ℤ d ≡ pos (w * steps steep k + over w d)
    whole = rw e (omega (arith, ints, l))

pub one_tight : (steep w : ℕ) (d k : ℤ) → unsigned_abs k ≡ 1 → unsigned_abs d ≤ steep * w → w ≤ unsigned_abs d → k *ℤ d ≡ pos (unsigned_abs k * unsigned_abs d) → IsTight steep w d k
one_tight steep w d k e m l p = record { within = m; whole = p ∙ ap pos (sized (unsigned_abs k) (unsigned_abs d) e l) }
  where
    sized : (n d : ℕ) → n ≡ 1 → w ≤ d → n * d ≡ w * steps_of steep n + (d - w)
    sized n d e l = rw e (omega (arith, l))

-- where there are more cycles than one, the whole of the steepness times the weight is the most that it can be
pub more_tight : (steep w : ℕ) (d k : ℤ) → (k ≡ pos 0 → ⊥) → w ≤ unsigned_abs d → unsigned_abs d ≡ steep * w → k *ℤ d ≡ pos (unsigned_abs k * unsigned_abs d) → IsTight steep w d k
more_tight steep w d k some l m p = record { within = omega (arith, m); whole = p ∙ ap pos (sized (unsigned_abs k) (unsigned_abs d) (λ e. some (omega (arith, ints, e))) l m) }
  where
    spread : (n d a : ℕ) → w ≤ d → d ≡ a → a ≡ steep * w → suc n * d ≡ w * (1 + steep * n) + (d - w)
    spread n d a l m e =
        let product : n * d ≡ w * (steep * n) = rw (m, e) (omega arith) in
        omega (arith, l, product)

    sized : (n d : ℕ) → (n ≡ 0 → ⊥) → w ≤ d → d ≡ steep * w → n * d ≡ w * steps_of steep n + (d - w)
    sized zero d some l m = absurd (some refl)
    sized (suc n) d some l m = spread n d (steep * w) l m refl

-- ---- the same, as what holds the difference
pub held_none : (steep w : ℕ) (d k : ℤ) → k ≡ pos 0 → unsigned_abs d ≤ steep * w → unsigned_abs d ≤ w → IsHeldBy steep w d k
held_none steep w d k e m l =
    rw e (record {
      within = m;
      none = λ x y. l;
      forth = λ x. absurd (omega (arith, x));
      forth_more = λ x. absurd (omega (arith, x));
      back = λ x. absurd (omega (arith, x));
      back_more = λ x. absurd (omega (arith, x));
    })

pub held_some : (steep w : ℕ) (d k : ℤ) → (k ≡ pos 0 → ⊥) → unsigned_abs d ≤ steep * w → w ≤ unsigned_abs d → (1 < unsigned_abs k → unsigned_abs d ≡ steep * w) → (pos 0 <ℤ k → pos 0 ≤ℤ d) → (k ≤ℤ pos 0 → d ≤ℤ pos 0) → IsHeldBy steep w d k
held_some steep w d k some m l whole up down =
    let p = amount_parts k in
    elim p.1 [
      | inl none ↦ (
          let low = down (omega (arith, ints, p.0, none)) in
          record {
            within = m;
            none = λ x y. absurd (some (omega (arith, ints, p.0, x, y)));
            forth = λ x. absurd (omega (arith, none, x));
            forth_more = λ x. absurd (omega (arith, none, x));
            back = λ x. omega (arith, ints, low, l);
            back_more = λ x. (let e = whole (omega (arith, ints, p.0, none, x)) in omega (arith, ints, low, e));
          })
      | inr none ↦ (
          let high = up (positive (amount_of k) (amount_of (neg_ℤ k)) p.0 none) in
          record {
            within = m;
            none = λ x y. absurd (some (omega (arith, ints, p.0, x, y)));
            forth = λ x. omega (arith, ints, high, l);
            forth_more = λ x. (let e = whole (omega (arith, ints, p.0, none, x)) in omega (arith, ints, high, e));
            back = λ x. absurd (omega (arith, none, x));
            back_more = λ x. absurd (omega (arith, none, x));
          })
    ]
  where
    positive : (a b : ℕ) → k ≡ pos a -ℤ pos b → b ≡ 0 → pos 0 <ℤ k
    positive zero b e n = absurd (some (omega (arith, ints, e, n)))
    positive (suc a) b e n = omega (arith, ints, e, n)
