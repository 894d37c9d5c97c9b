-- What the code computes, in 128 bits: the numbers themselves.
use Rattle.std.proofs.Common.{◌≡◌, ℕ, ◌+◌, ◌*◌, ◌<◌, ◌≤◌, ℤ, pos, ◌+ℤ◌, ◌-ℤ◌, ◌*ℤ◌, ◌<ℤ◌, arith, refl, sym, ap, subst, ◌∙◌, to_z, of_z, w64}
use Rattle.std.specs.Prelude.{FitsSigned}
use Rattle.std.specs.Int.{w128}
use Rattle.std.proofs.lemmas.Int.{ints, to_z-of_z}
use Rattle.std.proofs.lemmas.Nat.{mul-le}
use Rattle.grid_writer.specs.Values.{CanStand}
use Rattle.grid_writer.proofs.NoData.{is_no_data, no_bits}
use Rattle.displacement.specs.Displacements.{IsMean, IsTooWide}
use Rattle.displacement.specs.Steps.{IsFloor, MayBeSum}
use Rattle.displacement.proofs.TotalLemmas.{fits_wide, join_fits, plus_fits, rise_fits, rise_is, scaled_fits, times_fits}

-- a number as the code holds it
abbrev pub held : ℤ → ℤ
held z = to_z w128 (of_z w128 z)

held_is : (z y : ℤ) → z ≡ y → FitsSigned w128 y → held z ≡ y
held_is z y e fits = ap held e ∙ to_z-of_z w128 y fits

-- a number of 64 bits
pub long_is : (z y : ℤ) → FitsSigned w64 y → z ≡ to_z w64 (of_z w64 y) → z ≡ y
long_is z y fits e = e ∙ to_z-of_z w64 y fits

within_fits : (n : ℕ) (s : ℤ) → n ≤ 4096 → MayBeSum n s → FitsSigned w128 s
within_fits n s few h = let a = h.above in let b = h.below in fits_wide s (omega (arith, ints)) (omega (arith, ints))

wide_long : (z : ℤ) → FitsSigned w64 z → FitsSigned w128 z
wide_long z fits = fits_wide z (omega (arith, ints)) (omega (arith, ints))

both : (f : ℤ → ℤ → ℤ) (a b x y : ℤ) → a ≡ x → b ≡ y → f a b ≡ f x y
both f a b x y p q = ap (λ (z : ℤ). f z b) p ∙ ap (f x) q

-- one value more
module _ (n : ℕ) (s z a : ℤ) (few : n ≤ 4096) (within : MayBeSum n s) (fits : FitsSigned w64 z) (ea : a ≡ to_z w64 (of_z w64 z)) where
  plus_same : (held s +ℤ held a) ≡ s +ℤ z
  plus_same = both (λ x y. x +ℤ y) (held s) (held a) s z (held_is s s refl (within_fits n s few within)) (held_is a z (long_is a z fits ea) (wide_long z fits))

  pub plus_held_fits : FitsSigned w128 (held s +ℤ held a)
  plus_held_fits = subst (FitsSigned w128) (sym plus_same) (plus_fits n s z few within fits)

  pub plus_held : held (held s +ℤ held a) ≡ s +ℤ z
  plus_held = held_is (held s +ℤ held a) (s +ℤ z) plus_same (plus_fits n s z few within fits)

-- two sums
module _ (m n : ℕ) (s t : ℤ) (few : m + n ≤ 4096) (within : MayBeSum m s) (beside : MayBeSum n t) where
  join_same : (held s +ℤ held t) ≡ s +ℤ t
  join_same = both (λ x y. x +ℤ y) (held s) (held t) s t (held_is s s refl (within_fits m s (omega arith) within)) (held_is t t refl (within_fits n t (omega arith) beside))

  pub join_held_fits : FitsSigned w128 (held s +ℤ held t)
  join_held_fits = subst (FitsSigned w128) (sym join_same) (join_fits m n s t few within beside)

  pub join_held : held (held s +ℤ held t) ≡ s +ℤ t
  join_held = held_is (held s +ℤ held t) (s +ℤ t) join_same (join_fits m n s t few within beside)

-- a count times a constant
module _ (k n : ℕ) (a : ℤ) (few : n ≤ 4096) (small : k ≤ 4294967296) (ea : a ≡ pos n) where
  units_fits : FitsSigned w128 (pos (k * n))
  units_fits = let m = mul-le k n 4294967296 4096 small few in fits_wide (pos (k * n)) (omega (arith, ints)) (omega (arith, ints))

  units_same : (pos k *ℤ held a) ≡ pos (k * n)
  units_same = ap (λ (z : ℤ). pos k *ℤ z) (held_is a (pos n) ea (fits_wide (pos n) (omega (arith, ints)) (omega (arith, ints))))

  pub units_held_fits : FitsSigned w128 (pos k *ℤ held a)
  units_held_fits = subst (FitsSigned w128) (sym units_same) units_fits

  pub units_positive : 0 < k → 0 < n → pos 0 <ℤ held (pos k *ℤ held a)
  units_positive l m = subst (λ (z : ℤ). pos 0 <ℤ z) (sym (held_is (pos k *ℤ held a) (pos (k * n)) units_same units_fits)) (let p : 1 * 1 ≤ k * n = mul-le 1 1 k n l m in omega (arith, ints))

-- the mean: a, b and d are what stands for the count n, the reference r and the wavelength w
module _ (n w : ℕ) (s r a b d : ℤ) (some : 0 < n) (few : n ≤ 4096) (within : MayBeSum n s) (wave : w ≤ 1000000000) (fits : FitsSigned w64 r) (ea : a ≡ pos n) (eb : b ≡ to_z w64 (of_z w64 r)) (ed : d ≡ pos w) where
  count_fits : FitsSigned w128 (pos n)
  count_fits = fits_wide (pos n) (omega (arith, ints)) (omega (arith, ints))

  product_same : (held a *ℤ held b) ≡ pos n *ℤ r
  product_same = both (λ x y. x *ℤ y) (held a) (held b) (pos n) r (held_is a (pos n) ea count_fits) (held_is b r (long_is b r fits eb) (wide_long r fits))

  pub product_held_fits : FitsSigned w128 (held a *ℤ held b)
  product_held_fits = subst (FitsSigned w128) (sym product_same) (times_fits n r few fits)

  rise_same : (held s -ℤ held (held a *ℤ held b)) ≡ s -ℤ pos n *ℤ r
  rise_same = both (λ x y. x -ℤ y) (held s) (held (held a *ℤ held b)) s (pos n *ℤ r) (held_is s s refl (within_fits n s few within)) (held_is (held a *ℤ held b) (pos n *ℤ r) product_same (times_fits n r few fits))

  pub rise_held_fits : FitsSigned w128 (held s -ℤ held (held a *ℤ held b))
  rise_held_fits = subst (FitsSigned w128) (sym rise_same) (rise_fits n s r few within fits)

  scaled_same : (held d *ℤ held (held s -ℤ held (held a *ℤ held b))) ≡ pos w *ℤ (s -ℤ pos n *ℤ r)
  scaled_same = both (λ x y. x *ℤ y) (held d) (held (held s -ℤ held (held a *ℤ held b))) (pos w) (s -ℤ pos n *ℤ r) (held_is d (pos w) ed (fits_wide (pos w) (omega (arith, ints)) (omega (arith, ints)))) (held_is (held s -ℤ held (held a *ℤ held b)) (s -ℤ pos n *ℤ r) rise_same (rise_fits n s r few within fits))

  pub scaled_held_fits : FitsSigned w128 (held d *ℤ held (held s -ℤ held (held a *ℤ held b)))
  scaled_held_fits = subst (FitsSigned w128) (sym scaled_same) (scaled_fits w (s -ℤ pos n *ℤ r) wave (rise_is n s r few within fits))

  pub scaled_held : held (held d *ℤ held (held s -ℤ held (held a *ℤ held b))) ≡ pos w *ℤ (s -ℤ pos n *ℤ r)
  scaled_held = held_is (held d *ℤ held (held s -ℤ held (held a *ℤ held b))) (pos w *ℤ (s -ℤ pos n *ℤ r)) scaled_same (scaled_fits w (s -ℤ pos n *ℤ r) wave (rise_is n s r few within fits))

  divisor_fits : FitsSigned w128 (pos (131072 * n))
  divisor_fits = fits_wide (pos (131072 * n)) (omega (arith, ints)) (omega (arith, ints))

  divisor_same : (pos 131072 *ℤ held a) ≡ pos (131072 * n)
  divisor_same = ap (λ (z : ℤ). pos 131072 *ℤ z) (held_is a (pos n) ea count_fits)

  pub divisor_held : held (pos 131072 *ℤ held a) ≡ pos (131072 * n)
  divisor_held = held_is (pos 131072 *ℤ held a) (pos (131072 * n)) divisor_same divisor_fits

  -- q is what the division gives
  module _ (q : ℤ) (floor : IsFloor (held (held d *ℤ held (held s -ℤ held (held a *ℤ held b)))) (held (pos 131072 *ℤ held a)) q) (narrow : FitsSigned w128 q) where
    mean_held : IsMean w n (s -ℤ pos n *ℤ r) q
    mean_held =
        let f : IsFloor (pos w *ℤ (s -ℤ pos n *ℤ r)) (pos (131072 * n)) q = subst (λ (z : ℤ). IsFloor z (pos (131072 * n)) q) scaled_held (subst (λ (z : ℤ). IsFloor (held (held d *ℤ held (held s -ℤ held (held a *ℤ held b)))) z q) divisor_held floor) in
        record { least = f.least; most = f.most }

    -- v is what the cast to 64 bits gives
    pub written : (v : ℤ) → FitsSigned w64 (held q) × (v ≡ held q) → (of_z w64 v ≡ 9223372036854775808 → ⊥) → IsMean w n (s -ℤ pos n *ℤ r) (to_z w64 (of_z w64 v)) × CanStand (to_z w64 (of_z w64 v))
    written v k ne =
        let e : v ≡ q = k.1 ∙ held_is q q refl narrow in
        let fits : FitsSigned w64 v = subst (FitsSigned w64) (sym k.1) k.0 in
        let same : to_z w64 (of_z w64 v) ≡ q = to_z-of_z w64 v fits ∙ e in
        (subst (IsMean w n (s -ℤ pos n *ℤ r)) (sym same) mean_held, subst CanStand (sym (to_z-of_z w64 v fits)) (fits, no_bits v ne))

    pub too_low : (v : ℤ) → FitsSigned w64 (held q) × (v ≡ held q) → of_z w64 v ≡ 9223372036854775808 → IsTooWide w n (s -ℤ pos n *ℤ r)
    too_low v k e = record {
      displacement = q;
      mean = mean_held;
      wide = λ c. c.1 (sym (k.1 ∙ held_is q q refl narrow) ∙ is_no_data v (subst (FitsSigned w64) (sym k.1) k.0) e);
    }

    pub too_wide : (FitsSigned w64 (held q) → ⊥) → IsTooWide w n (s -ℤ pos n *ℤ r)
    too_wide k = record {
      displacement = q;
      mean = mean_held;
      wide = λ c. k (subst (FitsSigned w64) (sym (held_is q q refl narrow)) c.0);
    }
