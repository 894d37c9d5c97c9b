-- Values in units of 1/65536 cycle: the phase that they show, and the cycles above it.
use Rattle.std.proofs.Common.{◌≡◌, ◌∙◌, ℕ, ◌-◌, ◌/◌, ◌%◌, ◌<◌, refl, sym, ap, arith, eq-eqb, nat_eq, of_z, w64, IsTrue}
use Rattle.std.specs.Prelude.{ℤ, pos, negsuc, ◌+ℤ◌, ◌*ℤ◌, ◌↔◌}
use Rattle.std.specs.Int.{int_div_euclid, int_rem_euclid}
use Rattle.std.proofs.lemmas.Bool.{eqb-true}
use Rattle.std.proofs.lemmas.Int.{ints}

-- what a division leaves
record IsDivided (z : ℤ) : Type 0 where
  rest : ℕ
  below : rest < 65536
  rest_is : int_rem_euclid z (pos 65536) ≡ pos rest
  whole : z ≡ pos rest +ℤ pos 65536 *ℤ int_div_euclid z (pos 65536)

natural : (a : ℕ) → pos a ≡ pos (a % 65536) +ℤ pos 65536 *ℤ pos (a / 65536)
natural a = omega (arith, ints)

negative : (a q : ℕ) → q ≡ a / 65536 → negsuc a ≡ pos (65536 - 1 - a % 65536) +ℤ pos 65536 *ℤ negsuc q
negative a q e = omega (arith, ints, e)

divided : (z : ℤ) → IsDivided z
divided (pos a) = record { rest = a % 65536; below = omega arith; rest_is = refl; whole = natural a }
divided (negsuc a) = record { rest = 65536 - 1 - a % 65536; below = omega arith; rest_is = refl; whole = negative a (a / 65536) refl }

same_rest : (p q : ℕ) (c d : ℤ) → p < 65536 → q < 65536 → pos p +ℤ pos 65536 *ℤ c ≡ pos q +ℤ pos 65536 *ℤ d → p ≡ q
same_rest p q c d l m e = omega (arith, ints, l, m, e)

same_whole : (p q : ℕ) (c d : ℤ) → p < 65536 → q < 65536 → pos p +ℤ pos 65536 *ℤ c ≡ pos q +ℤ pos 65536 *ℤ d → c ≡ d
same_whole p q c d l m e = omega (arith, ints, l, m, e)

-- a value that lies whole cycles above a phase shows these
pub whole_cycles : (z : ℤ) (p : ℕ) (c : ℤ) → p < 65536 → z ≡ pos p +ℤ pos 65536 *ℤ c → int_div_euclid z (pos 65536) ≡ c
whole_cycles z p c l e =
    let d = divided z in
    same_whole d.rest p (int_div_euclid z (pos 65536)) c d.below l (sym d.whole ∙ e)

-- a rest that is a phase tells it
phase_of_rest : (z : ℤ) (p : ℕ) → int_rem_euclid z (pos 65536) ≡ pos p → z ≡ pos p +ℤ pos 65536 *ℤ int_div_euclid z (pos 65536)
phase_of_rest z p e =
    let d = divided z in
    d.whole ∙ ap (λ (x : ℤ). x +ℤ pos 65536 *ℤ int_div_euclid z (pos 65536)) (sym d.rest_is ∙ e)

-- so a test of the rest tells whether a value lies whole cycles above a phase
pub fits_by_test : (z rem from : ℤ) (p : ℕ) → p < 65536 → rem ≡ int_rem_euclid z (pos 65536) → from ≡ pos p → IsTrue (nat_eq (of_z w64 rem) (of_z w64 from)) ↔ ((c : ℤ) × (z ≡ pos p +ℤ pos 65536 *ℤ c))
fits_by_test z rem from p l e f =
    let d = divided z in
    let rest = e ∙ d.rest_is in
    rw (rest, f) (
      λ t. (int_div_euclid z (pos 65536), phase_of_rest z p (d.rest_is ∙ ap pos (eqb-true d.rest p t))),
      λ c. eq-eqb d.rest p (same_rest d.rest p (int_div_euclid z (pos 65536)) c.0 d.below l (sym d.whole ∙ c.1)),
    )
