-- The residue as code adds it up, at 32 bits.
use Rattle.std.proofs.Common.{◌≡◌, ℕ, suc, ◌+◌, refl, to_z, of_z, w32, ◌≤◌, arith}
use Rattle.std.specs.Prelude.{ℤ, pos, negsuc, ◌≤ℤ◌, ◌/◌, ◌+ℤ◌, ◌-ℤ◌, int_div, unsigned_abs, FitsSigned}
use Rattle.std.proofs.lemmas.Int.{ints}
use Rattle.raster_model.specs.Limits.{IsSlope}
use Rattle.raster_model.specs.Sums.{right_edge, down_edge}
use Rattle.raster_model.specs.Raster.{Raster, gradient, residue}

-- a quotient that is at most one cycle
quotient_small : (z : ℤ) → unsigned_abs z ≤ 131070 → unsigned_abs (int_div z (pos 65536)) ≤ 1
quotient_small (pos n) h = omega arith
quotient_small (negsuc n) h = let e : suc n / 65536 ≤ 1 = omega arith in omega (arith, ints, e)

-- the code's sum and residue, at 32 bits: the differences p and r are within half a cycle of the slope u, and q and s of v
module _ (u v p q r s : ℤ) (i : IsSlope u) (j : IsSlope v) (a : (u -ℤ pos 32768) ≤ℤ p) (b : p ≤ℤ (u +ℤ pos 32767)) (c : (v -ℤ pos 32768) ≤ℤ q) (d : q ≤ℤ (v +ℤ pos 32767)) (e : (u -ℤ pos 32768) ≤ℤ r) (f : r ≤ℤ (u +ℤ pos 32767)) (g : (v -ℤ pos 32768) ≤ℤ s) (h : s ≤ℤ (v +ℤ pos 32767)) where
  pub sum_fits : FitsSigned w32 (to_z w32 (of_z w32 (to_z w32 (of_z w32 (to_z w32 (of_z w32 p) +ℤ to_z w32 (of_z w32 q))) -ℤ to_z w32 (of_z w32 r))) -ℤ to_z w32 (of_z w32 s))
  sum_fits = omega (arith, ints, i.0, i.1, j.0, j.1, a, b, c, d, e, f, g, h)

  pub residue_small : unsigned_abs (int_div (p +ℤ q -ℤ r -ℤ s) (pos 65536)) ≤ 1
  residue_small = quotient_small (p +ℤ q -ℤ r -ℤ s) (omega (arith, ints, a, b, c, d, e, f, g, h))

  pub residue_fits : to_z w32 (of_z w32 (int_div (to_z w32 (of_z w32 (to_z w32 (of_z w32 (to_z w32 (of_z w32 (to_z w32 (of_z w32 p) +ℤ to_z w32 (of_z w32 q))) -ℤ to_z w32 (of_z w32 r))) -ℤ to_z w32 (of_z w32 s)))) (pos 65536))) ≡ int_div (p +ℤ q -ℤ r -ℤ s) (pos 65536)
  residue_fits =
      let inner : to_z w32 (of_z w32 (to_z w32 (of_z w32 (to_z w32 (of_z w32 (to_z w32 (of_z w32 p) +ℤ to_z w32 (of_z w32 q))) -ℤ to_z w32 (of_z w32 r))) -ℤ to_z w32 (of_z w32 s))) ≡ p +ℤ q -ℤ r -ℤ s = omega (arith, ints, i.0, i.1, j.0, j.1, a, b, c, d, e, f, g, h) in
      rw inner (small (int_div (p +ℤ q -ℤ r -ℤ s) (pos 65536)) residue_small)
    where
      small : (z : ℤ) → unsigned_abs z ≤ 1 → to_z w32 (of_z w32 z) ≡ z
      small z k = omega (arith, ints)

pub residue_from : (r : Raster) (x y : ℕ) (p q b l : ℤ) → p ≡ gradient r (right_edge x y) → q ≡ gradient r (down_edge (x + 1) y) → b ≡ gradient r (right_edge x (y + 1)) → l ≡ gradient r (down_edge x y) → int_div (p +ℤ q -ℤ b -ℤ l) (pos 65536) ≡ residue r x y
residue_from r x y p q b l ep eq eb el = rw (ep, eq, eb, el) refl
