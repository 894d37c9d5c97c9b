-- The residue as code adds it up, at 32 bits and cast to 8.
use Rattle.std.proofs.Common.{◌≡◌, ◌∙◌, ℕ, suc, ◌+◌, ◌/◌, ap, subst, refl, to_z, of_z, w8, w32, ◌≤◌, arith}
use Rattle.std.specs.Prelude.{ℤ, pos, negsuc, ◌≤ℤ◌, ◌+ℤ◌, ◌-ℤ◌, int_div, unsigned_abs, FitsSigned}
use Rattle.std.proofs.lemmas.Int.{ints}
use Rattle.raster_model.specs.Limits.{IsSlope}
use Rattle.raster_model.specs.Sums.{right_edge, down_edge}
use Rattle.wrapped_gradient.specs.GradientsView.{GradientsView}
use Rattle.wrapped_gradient.specs.Gradients.{gradient_at, residue_at}
use Rattle.wrapped_gradient.specs.Windows.{round}

quotient_small : (z : ℤ) → unsigned_abs z ≤ 131070 → unsigned_abs (int_div z (pos 65536)) ≤ 1
quotient_small (pos n) h = omega arith
quotient_small (negsuc n) h = let e : suc n / 65536 ≤ 1 = omega arith in omega (arith, ints, e)

-- within half a cycle of a slope
abbrev pub IsWrappedSize : ℤ → ℤ → Type 0
IsWrappedSize slope z = ((slope -ℤ pos 32768) ≤ℤ z) × (z ≤ℤ (slope +ℤ pos 32767))

-- round a cell the slopes u and v cancel
pub sum_small : (u v p q r s : ℤ) → IsWrappedSize u p → IsWrappedSize v q → IsWrappedSize u r → IsWrappedSize v s → unsigned_abs (p +ℤ q -ℤ r -ℤ s) ≤ 131070
sum_small u v p q r s a b c d = omega (arith, ints, a.0, a.1, b.0, b.1, c.0, c.1, d.0, d.1)

-- the code's quotient
abbrev pub quotient_of : ℤ → ℤ → ℤ → ℤ → ℤ
quotient_of p q r s = to_z w32 (of_z w32 (int_div (to_z w32 (of_z w32 (to_z w32 (of_z w32 (to_z w32 (of_z w32 (to_z w32 (of_z w32 p) +ℤ to_z w32 (of_z w32 q))) -ℤ to_z w32 (of_z w32 r))) -ℤ to_z w32 (of_z w32 s)))) (pos 65536)))

pub quotient_is : (u v p q r s : ℤ) → IsSlope u → IsSlope v → IsWrappedSize u p → IsWrappedSize v q → IsWrappedSize u r → IsWrappedSize v s → quotient_of p q r s ≡ int_div (p +ℤ q -ℤ r -ℤ s) (pos 65536)
quotient_is u v p q r s i j a b c d =
    let inner : to_z w32 (of_z w32 (to_z w32 (of_z w32 (to_z w32 (of_z w32 (to_z w32 (of_z w32 p) +ℤ to_z w32 (of_z w32 q))) -ℤ to_z w32 (of_z w32 r))) -ℤ to_z w32 (of_z w32 s))) ≡ p +ℤ q -ℤ r -ℤ s = omega (arith, ints, i.0, i.1, j.0, j.1, a.0, a.1, b.0, b.1, c.0, c.1, d.0, d.1) in
    rw inner (small (int_div (p +ℤ q -ℤ r -ℤ s) (pos 65536)) (quotient_small (p +ℤ q -ℤ r -ℤ s) (sum_small u v p q r s a b c d)))
  where
    small : (z : ℤ) → unsigned_abs z ≤ 1 → to_z w32 (of_z w32 z) ≡ z
    small z k = omega (arith, ints)

pub quotient_bounded : (u v p q r s : ℤ) → IsSlope u → IsSlope v → IsWrappedSize u p → IsWrappedSize v q → IsWrappedSize u r → IsWrappedSize v s → unsigned_abs (quotient_of p q r s) ≤ 1
quotient_bounded u v p q r s i j a b c d = rw (quotient_is u v p q r s i j a b c d) (quotient_small (p +ℤ q -ℤ r -ℤ s) (sum_small u v p q r s a b c d))

-- at 8 bits
pub cast_fits : (z : ℤ) → unsigned_abs z ≤ 1 → FitsSigned w8 z
cast_fits z h = omega (arith, ints)

pub cast_is : (z : ℤ) → unsigned_abs z ≤ 1 → to_z w8 (of_z w8 z) ≡ z
cast_is z h = omega (arith, ints)

-- over the numbers that a window holds
module _ (g : GradientsView) (x y : ℕ) (p q b l : ℤ) (sp : IsWrappedSize g.terms.ramp_x p) (sq : IsWrappedSize g.terms.ramp_y q) (sb : IsWrappedSize g.terms.ramp_x b) (sl : IsWrappedSize g.terms.ramp_y l) (top : p ≡ gradient_at g (right_edge x y)) (right : q ≡ gradient_at g (down_edge (x + 1) y)) (bottom : b ≡ gradient_at g (right_edge x (y + 1))) (left : l ≡ gradient_at g (down_edge x y)) where
  sums : p +ℤ q -ℤ b -ℤ l ≡ round (gradient_at g) x y
  sums = rw (top, right, bottom, left) refl

  pub residue_sum : quotient_of p q b l ≡ residue_at g x y
  residue_sum = quotient_is g.terms.ramp_x g.terms.ramp_y p q b l g.terms.across g.terms.along sp sq sb sl ∙ ap (λ (z : ℤ). int_div z (pos 65536)) sums

  pub sum_of : unsigned_abs (round (gradient_at g) x y) ≤ 131070
  sum_of = subst (λ (z : ℤ). unsigned_abs z ≤ 131070) sums (sum_small g.terms.ramp_x g.terms.ramp_y p q b l sp sq sb sl)
