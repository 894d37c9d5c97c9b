-- Two numberings of the regions in row order of first pixels are one.
use Rattle.std.proofs.Common.{◌≡◌, ℕ, zero, suc, ◌+◌, ◌*◌, ◌/◌, ◌%◌, ◌<◌, ◌≤◌, ◌⊎◌, inl, inr, sym, ◌∙◌, ap, refl, arith, Bool, true, false}
use Rattle.std.specs.Prelude.{◌&&◌, ◌==◌}
use Rattle.std.proofs.lemmas.Nat.{mod-mul-add, div-mul-add, div-add-mod', mod_below, div_below, mul-le, mul-add-lt}
use Rattle.raster_model.specs.Sums.{Field}
use Rattle.raster_model.specs.Raster.{Raster}
use Rattle.raster_model.specs.Seams.{IsOpenPixel, IsEarlier, IsFirst, AreRegions, RegionNumbersAreUnique}
use Rattle.sums_and_lists.proofs.Orders.{below_or_last, below_at_above}
use Rattle.std.proofs.lemmas.Bool.{cases_Bool}
use Rattle.sums_and_lists.proofs.Tests.{true_and_false, tells_both, both_told}

-- the first place from a on that passes a test, where the place a + d does
pub first_from : (P : ℕ → Bool) (d a : ℕ) → ((j : ℕ) → j < a → P j ≡ false) → P (a + d) ≡ true → (m : ℕ) × (m ≤ a + d) × (P m ≡ true) × ((j : ℕ) → j < m → P j ≡ false)
first_from P zero a none t = (a, omega arith, (let e : a + 0 ≡ a = omega arith in rw e at t), none)
first_from P (suc d) a none t =
    let e : a + suc d ≡ (a + 1) + d = omega arith in
    elim (cases_Bool (P a)) [
      | inl h ↦ (a, omega arith, h, none)
      | inr h ↦ (
          let u = first_from P d (a + 1) (λ j l. elim (below_or_last j a l) [ inl k ↦ none j k | inr k ↦ rw k h ]) (rw e at t) in
          (u.0, omega (arith, u.1), u.2, u.3))
    ]

pub earlier_place : (w a b x y : ℕ) → a < w → IsEarlier a b x y → b * w + a < y * w + x
earlier_place w a b x y l (inl k) =
    let m : suc b * w ≤ y * w = mul-le (suc b) w y w (omega arith) (omega arith) in
    omega (arith, m)
earlier_place w a b x y l (inr k) = let e : b * w ≡ y * w = ap (λ (n : ℕ). n * w) k.0 in omega (arith, e, k.1)

order : (a b x y : ℕ) → IsEarlier a b x y ⊎ (IsEarlier x y a b ⊎ ((a ≡ x) × (b ≡ y)))
order a b x y = grind arith

module _ (r : Raster) (mask : Field Bool) (labels : Field ℕ) (count : ℕ) (is : AreRegions r mask labels count) where
  -- the first pixel of a pixel's region
  pub first_of : (x y : ℕ) → IsOpenPixel r mask x y → (a : ℕ) × (b : ℕ) × IsFirst r mask a b × (labels a b ≡ labels x y)
  first_of x y o =
      let w = r.width in
      let P : ℕ → Bool = λ k. mask (k % w) (k / w) && (labels (k % w) (k / w) == labels x y) in
      let here : P (y * w + x) ≡ true = rw (mod-mul-add y w x o.0, div-mul-add y w x o.0) (both_told (mask x y) (labels x y) (labels x y) o.2 refl) in
      let e : 0 + (y * w + x) ≡ y * w + x = omega arith in
      let f = first_from P (y * w + x) 0 (λ j l. absurd (omega arith)) (rw e here) in
      let p : 0 < w = omega (arith, o.0) in
      let t = tells_both (mask (f.0 % w) (f.0 / w)) (labels (f.0 % w) (f.0 / w)) (labels x y) f.2 in
      let bound : y * w + x < r.height * w = within w r.height x y o.0 o.1 in
      let inside : IsOpenPixel r mask (f.0 % w) (f.0 / w) = (mod_below f.0 w p, div_below f.0 w r.height p (omega (arith, f.1, bound)), t.0) in (
        f.0 % w,
        f.0 / w,
        (
          inside,
          λ a b q l j. (
              let one = (is.labelling.same (f.0 % w) (f.0 / w) a b inside q).1 j in
              let same : labels a b ≡ labels x y = omega (arith, one, t.1) in
              let before : b * w + a < f.0 / w * w + f.0 % w = earlier_place w a b (f.0 % w) (f.0 / w) q.0 l in
              let none = f.3 (b * w + a) (omega (arith, before, div-add-mod' f.0 w)) in
              true_and_false (mask a b && (labels a b == labels x y)) (both_told (mask a b) (labels a b) (labels x y) q.2 same) (rw (mod-mul-add b w a q.0, div-mul-add b w a q.0) at none)),
        ),
        t.1,
      )
    where
      within : (w h x y : ℕ) → x < w → y < h → y * w + x < h * w
      within w h x y l m = omega (arith, mul-add-lt y w x h m l)

-- one step: numbers below n agree, so number n of the first is number n of the second
module _ (r : Raster) (mask : Field Bool) (L : Field ℕ) (c : ℕ) (M : Field ℕ) (d : ℕ) (isL : AreRegions r mask L c) (isM : AreRegions r mask M d) where
  step : (n : ℕ) → ((u : ℕ) → u < n → (x y : ℕ) → IsOpenPixel r mask x y → L x y ≡ u → M x y ≡ u) → ((u : ℕ) → u < n → (x y : ℕ) → IsOpenPixel r mask x y → M x y ≡ u → L x y ≡ u) → (x y : ℕ) → IsOpenPixel r mask x y → L x y ≡ n → M x y ≡ n
  step n left right x y o e = elim (below_at_above (M x y) n) [
    | inl less ↦ absurd (omega (arith, less, e, right (M x y) less x y o refl))
    | inr rest ↦ elim rest [
      | inl same ↦ same
      | inr more ↦ absurd (too_high more)
    ]
  ]
    where
      too_high : n < M x y → ⊥
      too_high more =
          let q = isM.labelling.used n (omega (arith, more, isM.labelling.below x y o)) in
          elim (below_at_above (L q.0 q.1) n) [
            | inl less ↦ omega (arith, less, q.3, left (L q.0 q.1) less q.0 q.1 q.2 refl)
            | inr rest ↦ elim rest [
              | inl same ↦ (
                  let j = (isL.labelling.same x y q.0 q.1 o q.2).0 (e ∙ sym same) in
                  let k = (isM.labelling.same x y q.0 q.1 o q.2).1 j in
                  omega (arith, more, k, q.3))
              | inr above ↦ later q.0 q.1 q.2 q.3 above
            ]
          ]
        where
          later : (p s : ℕ) → IsOpenPixel r mask p s → M p s ≡ n → n < L p s → ⊥
          later p s i g above =
              let f = first_of r mask L c isL x y o in
              let h = first_of r mask L c isL p s i in
              let mf = (isM.labelling.same f.0 f.1 x y f.2.0 o).1 ((isL.labelling.same f.0 f.1 x y f.2.0 o).0 f.3) in
              let mh = (isM.labelling.same h.0 h.1 p s h.2.0 i).1 ((isL.labelling.same h.0 h.1 p s h.2.0 i).0 h.3) in
              elim (order f.0 f.1 h.0 h.1) [
                | inl t ↦ omega (arith, isM.in_order f.0 f.1 h.0 h.1 f.2 h.2 t, mf, mh, g, more)
                | inr t ↦ elim t [
                  | inl t ↦ omega (arith, isL.in_order h.0 h.1 f.0 f.1 h.2 f.2 t, f.3, h.3, e, above)
                  | inr t ↦ (
                      let same : L f.0 f.1 ≡ L h.0 h.1 = ap (λ (a : ℕ). L a f.1) t.0 ∙ ap (λ (b : ℕ). L h.0 b) t.1 in
                      omega (arith, same, f.3, h.3, e, above))
                ]
              ]

module _ (r : Raster) (mask : Field Bool) (L : Field ℕ) (c : ℕ) (M : Field ℕ) (d : ℕ) (isL : AreRegions r mask L c) (isM : AreRegions r mask M d) where
  Agree : ℕ → Type 0
  Agree n = ((u : ℕ) → u < n → (x y : ℕ) → IsOpenPixel r mask x y → L x y ≡ u → M x y ≡ u) × ((u : ℕ) → u < n → (x y : ℕ) → IsOpenPixel r mask x y → M x y ≡ u → L x y ≡ u)

  agree : (n : ℕ) → Agree n
  unfolding Agree
  agree zero = (λ u l. absurd (omega arith), λ u l. absurd (omega arith))
  agree (suc n) =
      let a = agree n in (
        λ u l x y o e. elim (below_or_last u n (omega arith)) [
          | inl k ↦ a.0 u k x y o e
          | inr k ↦ (rw k (step r mask L c M d isL isM n a.0 a.1 x y o (e ∙ k)))
        ],
        λ u l x y o e. elim (below_or_last u n (omega arith)) [
          | inl k ↦ a.1 u k x y o e
          | inr k ↦ (rw k (step r mask M d L c isM isL n a.1 a.0 x y o (e ∙ k)))
        ],
      )

  pub numbers_agree : (x y : ℕ) → IsOpenPixel r mask x y → L x y ≡ M x y
  unfolding Agree
  numbers_agree x y o = sym ((agree (suc (L x y))).0 (L x y) (omega arith) x y o refl)

-- each number below one count is that of a pixel, so it is below the other
count_within : (r : Raster) (mask : Field Bool) (L : Field ℕ) (c : ℕ) (M : Field ℕ) (d : ℕ) → AreRegions r mask L c → AreRegions r mask M d → c ≤ d
count_within r mask L zero M d isL isM = omega arith
count_within r mask L (suc v) M d isL isM =
    let p = isL.labelling.used v (omega arith) in
    let same = numbers_agree r mask L (suc v) M d isL isM p.0 p.1 p.2 in
    omega (arith, p.3, same, isM.labelling.below p.0 p.1 p.2)

pub region_numbers_are_unique : RegionNumbersAreUnique
region_numbers_are_unique r mask L c M d isL isM =
    (omega (arith, count_within r mask L c M d isL isM, count_within r mask M d L c isM isL), numbers_agree r mask L c M d isL isM)
