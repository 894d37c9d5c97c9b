-- The nearest value as the code computes it, in 128 bits, and that there is one.
use Rattle.std.proofs.Common.{◌≡◌, ℕ, ◌<◌, ◌≤◌, ℤ, pos, negsuc, neg_ℤ, ◌+ℤ◌, ◌-ℤ◌, ◌*ℤ◌, ◌≤ℤ◌, Bool, true, false, arith, refl, sym, ap, subst, ◌∙◌, to_z, of_z, w64}
use Rattle.std.specs.Prelude.{FitsSigned, IsTrue, ◌<ℤ◌}
use Rattle.std.specs.Int.{int_rem_euclid, w128}
use Rattle.std.proofs.lemmas.Int.{ints, to_z-of_z}
use Rattle.raster_model.proofs.PhaseLemmas.{euclid}
use Rattle.grid_writer.specs.Values.{CanStand}
use Rattle.grid_writer.proofs.NoData.{no_bits}
use Rattle.nearest_surface.specs.Nearest.{IsNearest, IsTooWide, Stands}

-- ---- there is one

pub nearest_one : (phase : ℕ) (given value other : ℤ) → IsNearest phase given value → IsNearest phase given other → value ≡ other
nearest_one phase given value other p q =
    let a = p.least in
    let b = p.most in
    let c = p.whole in
    let d = q.least in
    let e = q.most in
    let f = q.whole in
    omega (arith, ints, a, b, c, d, e, f)

pub stands_one : (unmasked : Bool) (phase : ℕ) (given value other : ℤ) → Stands unmasked phase given value → Stands unmasked phase given other → value ≡ other
stands_one true phase given value other p q = nearest_one phase given value other (p.nearest refl).0 (q.nearest refl).0
stands_one false phase given value other p q = p.masked refl ∙ sym (q.masked refl)

-- what stands at an open pixel is not too wide
pub not_wide : (unmasked : Bool) (phase : ℕ) (given value : ℤ) → Stands unmasked phase given value → IsTrue unmasked → IsTooWide phase given → ⊥
not_wide unmasked phase given value s clear wide =
    let n = s.nearest clear in
    wide.wide (subst CanStand (nearest_one phase given value wide.value n.0 wide.nearest) n.1)

-- ---- a number of 128 bits, as the code holds it

abbrev pub held : ℤ → ℤ
held n = to_z w128 (of_z w128 n)

held_is : (m n : ℤ) → m ≡ n → FitsSigned w128 n → held m ≡ n
held_is m n e fits = ap held e ∙ to_z-of_z w128 n fits

fits_wide : (n : ℤ) → neg_ℤ (pos 1329227995784915872903807060280344576) ≤ℤ n → n ≤ℤ pos 1329227995784915872903807060280344576 → FitsSigned w128 n
fits_wide (pos n) a b = let h : n ≤ 1329227995784915872903807060280344576 = omega (arith, ints) in record { sfits = omega arith }
fits_wide (negsuc n) a b = let h : n ≤ 1329227995784915872903807060280344576 = omega (arith, ints) in record { sfits = omega arith }

long_held : (n u : ℤ) → FitsSigned w64 n → u ≡ to_z w64 (of_z w64 n) → held u ≡ n
long_held n u fits e = held_is u n (e ∙ to_z-of_z w64 n fits) (fits_wide n (omega (arith, ints)) (omega (arith, ints)))

both : (f : ℤ → ℤ → ℤ) (a b x y : ℤ) → a ≡ x → b ≡ y → f a b ≡ f x y
both f a b x y p q = ap (λ (n : ℤ). f n b) p ∙ ap (f x) q

remainder_below : (z : ℤ) → (pos 0 ≤ℤ int_rem_euclid z (pos 65536)) × (int_rem_euclid z (pos 65536) <ℤ pos 65536)
remainder_below (pos n) = (omega (arith, ints), omega (arith, ints))
remainder_below (negsuc n) = (omega (arith, ints), omega (arith, ints))

-- ---- how far the nearest value is above the given one; u and v are what stands for the phase and for the given value

module _ (p : ℕ) (g u v : ℤ) (small : p < 65536) (fits : FitsSigned w64 g) (eu : u ≡ pos p) (ev : v ≡ to_z w64 (of_z w64 g)) where
  difference : (held u -ℤ held v) ≡ pos p -ℤ g
  difference = both (λ x y. x -ℤ y) (held u) (held v) (pos p) g (held_is u (pos p) eu (fits_wide (pos p) (omega (arith, ints)) (omega (arith, ints)))) (long_held g v fits ev)

  difference_wide : FitsSigned w128 (pos p -ℤ g)
  difference_wide = fits_wide (pos p -ℤ g) (omega (arith, ints)) (omega (arith, ints))

  raised : (held (held u -ℤ held v) +ℤ pos 32768) ≡ (pos p -ℤ g) +ℤ pos 32768
  raised = ap (λ (n : ℤ). n +ℤ pos 32768) (held_is (held u -ℤ held v) (pos p -ℤ g) difference difference_wide)

  raised_wide : FitsSigned w128 ((pos p -ℤ g) +ℤ pos 32768)
  raised_wide = fits_wide ((pos p -ℤ g) +ℤ pos 32768) (omega (arith, ints)) (omega (arith, ints))

  -- r is the remainder
  module _ (r : ℤ) (er : r ≡ int_rem_euclid (held (held (held u -ℤ held v) +ℤ pos 32768)) (pos 65536)) where
    remainder : r ≡ int_rem_euclid ((pos p -ℤ g) +ℤ pos 32768) (pos 65536)
    remainder = er ∙ ap (λ (n : ℤ). int_rem_euclid n (pos 65536)) (held_is (held (held u -ℤ held v) +ℤ pos 32768) ((pos p -ℤ g) +ℤ pos 32768) raised raised_wide)

    below : (pos 0 ≤ℤ r) × (r <ℤ pos 65536)
    below = subst (λ (n : ℤ). (pos 0 ≤ℤ n) × (n <ℤ pos 65536)) (sym remainder) (remainder_below ((pos p -ℤ g) +ℤ pos 32768))

    same : held r ≡ r
    same = held_is r r refl (let l = below.0 in let m = below.1 in fits_wide r (omega (arith, ints)) (omega (arith, ints)))

    rise : (held r -ℤ pos 32768) ≡ r -ℤ pos 32768
    rise = ap (λ (n : ℤ). n -ℤ pos 32768) same

    rise_wide : FitsSigned w128 (r -ℤ pos 32768)
    rise_wide = let l = below.0 in let m = below.1 in fits_wide (r -ℤ pos 32768) (omega (arith, ints)) (omega (arith, ints))

    nearest_rise : IsNearest p g (g +ℤ (r -ℤ pos 32768))
    nearest_rise =
        let e = euclid ((pos p -ℤ g) +ℤ pos 32768) in
        let whole : (pos p -ℤ g) +ℤ pos 32768 ≡ r +ℤ pos 65536 *ℤ e.0 = e.1 ∙ ap (λ (n : ℤ). n +ℤ pos 65536 *ℤ e.0) (sym remainder) in
        let l = below.0 in
        let m = below.1 in
        record { cycles = neg_ℤ e.0; whole = omega (arith, ints, whole); least = omega (arith, ints, l); most = omega (arith, ints, m) }

    pub rise_is : IsNearest p g (g +ℤ held (held r -ℤ pos 32768))
    rise_is = subst (λ (n : ℤ). IsNearest p g (g +ℤ n)) (sym (held_is (held r -ℤ pos 32768) (r -ℤ pos 32768) rise rise_wide)) nearest_rise

-- ---- the nearest value; v is what stands for the given one, and s is how far it is above it

module _ (p : ℕ) (g v s : ℤ) (fits : FitsSigned w64 g) (ev : v ≡ to_z w64 (of_z w64 g)) (near : IsNearest p g (g +ℤ s)) where
  small_rise : FitsSigned w128 s
  small_rise = let a = near.least in let b = near.most in fits_wide s (omega (arith, ints, a)) (omega (arith, ints, b))

  sum : (held v +ℤ held s) ≡ g +ℤ s
  sum = both (λ x y. x +ℤ y) (held v) (held s) g s (long_held g v fits ev) (held_is s s refl small_rise)

  sum_wide : FitsSigned w128 (g +ℤ s)
  sum_wide = let a = near.least in let b = near.most in fits_wide (g +ℤ s) (omega (arith, ints, a)) (omega (arith, ints, b))

  sum_held : held (held v +ℤ held s) ≡ g +ℤ s
  sum_held = held_is (held v +ℤ held s) (g +ℤ s) sum sum_wide

  -- n is what the cast to 64 bits gives
  pub told : (n : ℤ) → FitsSigned w64 (held (held v +ℤ held s)) × (n ≡ held (held v +ℤ held s)) → (of_z w64 n ≡ 9223372036854775808 → ⊥) → IsNearest p g (to_z w64 (of_z w64 n)) × CanStand (to_z w64 (of_z w64 n))
  told n k ne =
      let long : FitsSigned w64 n = subst (FitsSigned w64) (sym k.1) k.0 in
      let same = to_z-of_z w64 n long in
      subst (λ (z : ℤ). IsNearest p g z × CanStand z) (sym same) (subst (IsNearest p g) (sym (k.1 ∙ sum_held)) near, (long, no_bits n ne))
