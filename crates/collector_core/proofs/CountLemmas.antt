-- How many numbers fail a test: no more where another test holds wherever it does, and fewer where one of them passes.
use Rattle.std.proofs.Common.{◌≡◌, ℕ, zero, suc, ◌+◌, ◌<◌, ◌≤◌, ◌⊎◌, inl, inr, refl, subst, arith, Bool, true, false}
use Rattle.std.specs.Prelude.{IsTrue, IsFalse, if◌then◌else◌}
use Rattle.collector_core.specs.Finishing.{failing}
use Rattle.sums_and_lists.proofs.Orders.{below_or_last}

no_more_by : (a b : Bool) (f g : ℕ) → (IsTrue a → IsTrue b) → g ≤ f → (if b then 0 else 1) + g ≤ (if a then 0 else 1) + f
no_more_by true true f g h l = omega (arith, l)
no_more_by true false f g h l = absurd (cc (h refl))
no_more_by false true f g h l = omega (arith, l)
no_more_by false false f g h l = omega (arith, l)

fewer_by : (a b : Bool) (f g : ℕ) → (IsTrue a → IsTrue b) → g < f → (if b then 0 else 1) + g < (if a then 0 else 1) + f
fewer_by true true f g h l = omega (arith, l)
fewer_by true false f g h l = absurd (cc (h refl))
fewer_by false true f g h l = omega (arith, l)
fewer_by false false f g h l = omega (arith, l)

fewer_at : (a b : Bool) (f g : ℕ) → IsFalse a → IsTrue b → g ≤ f → (if b then 0 else 1) + g < (if a then 0 else 1) + f
fewer_at false true f g p q l = omega (arith, l)
fewer_at true b f g p q l = absurd (cc)
fewer_at false false f g p q l = absurd (cc)

module _ (p q : ℕ → Bool) (more : (t : ℕ) → IsTrue (p t) → IsTrue (q t)) where
  no_more : (n : ℕ) → failing n q ≤ failing n p
  unfolding failing
  no_more zero = omega arith
  no_more (suc n) = no_more_by (p n) (q n) (failing n p) (failing n q) (more n) (no_more n)

  pub fewer : (n t : ℕ) → t < n → IsFalse (p t) → IsTrue (q t) → failing n q < failing n p
  unfolding failing
  fewer zero t l fails passes = absurd (omega (arith, l))
  fewer (suc n) t l fails passes = elim (below_or_last t n (omega (arith, l))) [
    | inl k ↦ fewer_by (p n) (q n) (failing n p) (failing n q) (more n) (fewer n t k fails passes)
    | inr e ↦ fewer_at (p n) (q n) (failing n p) (failing n q) (subst (λ (u : ℕ). IsFalse (p u)) e fails) (subst (λ (u : ℕ). IsTrue (q u)) e passes) (no_more n)
  ]
