-- The sum of three values as the code computes it, in 128 bits.
use Rattle.std.proofs.Common.{◌≡◌, ◌≤◌, ℤ, pos, negsuc, neg_ℤ, ◌+ℤ◌, ◌-ℤ◌, ◌≤ℤ◌, true, arith, refl, sym, ap, subst, ◌∙◌, to_z, of_z, w64}
use Rattle.std.specs.Prelude.{FitsSigned}
use Rattle.std.specs.Int.{w128}
use Rattle.std.proofs.lemmas.Int.{ints, to_z-of_z}
use Rattle.grid_writer.proofs.NoData.{a_value, is_no_data, no_bits}
use Rattle.loop_closure.specs.Closure.{IsWideLoop, are_there, closure_of, loop_sum}

-- ---- a number of 128 bits, as the code holds it
abbrev pub held : ℤ → ℤ
held n = to_z w128 (of_z w128 n)

held_is : (m n : ℤ) → m ≡ n → FitsSigned w128 n → held m ≡ n
held_is m n e fits = ap held e ∙ to_z-of_z w128 n fits

fits_wide : (n : ℤ) → neg_ℤ (pos 1329227995784915872903807060280344576) ≤ℤ n → n ≤ℤ pos 1329227995784915872903807060280344576 → FitsSigned w128 n
fits_wide (pos n) a b = let h : n ≤ 1329227995784915872903807060280344576 = omega (arith, ints) in record { sfits = omega arith }
fits_wide (negsuc n) a b = let h : n ≤ 1329227995784915872903807060280344576 = omega (arith, ints) in record { sfits = omega arith }

long_held : (n u : ℤ) → FitsSigned w64 n → u ≡ to_z w64 (of_z w64 n) → held u ≡ n
long_held n u fits e = held_is u n (e ∙ to_z-of_z w64 n fits) (fits_wide n (omega (arith, ints)) (omega (arith, ints)))

both : (f : ℤ → ℤ → ℤ) (a b x y : ℤ) → a ≡ x → b ≡ y → f a b ≡ f x y
both f a b x y p q = ap (λ (n : ℤ). f n b) p ∙ ap (f x) q

-- ---- the sum of three; u, v and w are what stands for a, b and c

module _ (a b c u v w : ℤ) (fa : FitsSigned w64 a) (fb : FitsSigned w64 b) (fc : FitsSigned w64 c) (ea : u ≡ to_z w64 (of_z w64 a)) (eb : v ≡ to_z w64 (of_z w64 b)) (ec : w ≡ to_z w64 (of_z w64 c)) where
  two_held : held (held u +ℤ held v) ≡ a +ℤ b
  two_held = held_is (held u +ℤ held v) (a +ℤ b) (both (λ x y. x +ℤ y) (held u) (held v) a b (long_held a u fa ea) (long_held b v fb eb)) (fits_wide (a +ℤ b) (omega (arith, ints)) (omega (arith, ints)))

  pub sum_held : held (held (held u +ℤ held v) -ℤ held w) ≡ loop_sum a b c
  sum_held = held_is (held (held u +ℤ held v) -ℤ held w) (loop_sum a b c) (both (λ x y. x -ℤ y) (held (held u +ℤ held v)) (held w) (a +ℤ b) c two_held (long_held c w fc ec)) (fits_wide (loop_sum a b c) (omega (arith, ints)) (omega (arith, ints)))

  module _ (na : of_z w64 a ≡ 9223372036854775808 → ⊥) (nb : of_z w64 b ≡ 9223372036854775808 → ⊥) (nc : of_z w64 c ≡ 9223372036854775808 → ⊥) where
    there : are_there a b c ≡ true
    there = rw (a_value a (no_bits a na), a_value b (no_bits b nb), a_value c (no_bits c nc)) refl

    -- n is what the cast to 64 bits gives
    pub told : (n : ℤ) → FitsSigned w64 (held (held (held u +ℤ held v) -ℤ held w)) × (n ≡ held (held (held u +ℤ held v) -ℤ held w)) → (of_z w64 n ≡ 9223372036854775808 → ⊥) → (to_z w64 (of_z w64 n) ≡ closure_of a b c) × (IsWideLoop a b c → ⊥)
    told n k ne =
        let e : n ≡ loop_sum a b c = k.1 ∙ sum_held in
        let fits : FitsSigned w64 n = subst (FitsSigned w64) (sym k.1) k.0 in
        let whole : closure_of a b c ≡ loop_sum a b c = rw there refl in
        (to_z-of_z w64 n fits ∙ e ∙ sym whole, λ wide. wide.1 (subst (FitsSigned w64) e fits, λ f. no_bits n ne (e ∙ f)))

    pub no_closure : (n : ℤ) → FitsSigned w64 (held (held (held u +ℤ held v) -ℤ held w)) × (n ≡ held (held (held u +ℤ held v) -ℤ held w)) → of_z w64 n ≡ 9223372036854775808 → IsWideLoop a b c
    no_closure n k e = (there, λ is. is.1 (sym (k.1 ∙ sum_held) ∙ is_no_data n (subst (FitsSigned w64) (sym k.1) k.0) e))

    pub too_wide : (FitsSigned w64 (held (held (held u +ℤ held v) -ℤ held w)) → ⊥) → IsWideLoop a b c
    too_wide k = (there, λ is. k (subst (FitsSigned w64) (sym sum_held) is.0))
