use Rattle.std.proofs.Common.{◌≡◌, ◌∙◌, sym, arith, w64, SFits, to_z, of_z}
use Rattle.std.specs.Prelude.{ℤ, pos, neg_ℤ, ◌+ℤ◌, ◌-ℤ◌}
use Rattle.std.proofs.lemmas.Int.{ints}
use Rattle.wrapped_gradient.specs.Corrections.{correction_at}
use Rattle.dual_grid.proofs.CheckLemmas.{around, around_is, signed_same}
use Rattle.dual_grid.proofs.checking.is_cancelled.Goals as goal

pub overflow_sub-around-2 : goal.overflow_sub-around-2
overflow_sub-around-2 c =
    let sum = around_is c.correction-top.result c.correction-right.result c.correction-bottom.result c.correction-left.result c.correction-top.ensures.small c.correction-right.ensures.small c.correction-bottom.ensures.small c.correction-left.ensures.small in
    omega (arith, ints, sum, c.correction-top.ensures.small, c.correction-right.ensures.small, c.correction-bottom.ensures.small, c.correction-left.ensures.small)

pub returns : goal.returns
returns c =
    λ same.
    let p = c.args.problem.now in
    let v = p.window in
    let k = correction_at v c.args.corrections.now in
    let sum = around_is c.correction-top.result c.correction-right.result c.correction-bottom.result c.correction-left.result c.correction-top.ensures.small c.correction-right.ensures.small c.correction-bottom.ensures.small c.correction-left.ensures.small in
    let read : to_z w64 (of_z w64 c.residue.result) ≡ c.residue.result = omega (arith, ints, c.residue.ensures.small) in
    let whole : SFits w64 (around c.correction-top.result c.correction-right.result c.correction-bottom.result c.correction-left.result) = omega (arith, ints, sum, c.correction-top.ensures.small, c.correction-right.ensures.small, c.correction-bottom.ensures.small, c.correction-left.ensures.small) in
    let turned : SFits w64 (pos 0 -ℤ to_z w64 (of_z w64 c.residue.result)) = omega (arith, ints, read, c.residue.ensures.small) in
    let equal = signed_same (around c.correction-top.result c.correction-right.result c.correction-bottom.result c.correction-left.result) (pos 0 -ℤ to_z w64 (of_z w64 c.residue.result)) whole turned same in
    let minus : pos 0 -ℤ to_z w64 (of_z w64 c.residue.result) ≡ neg_ℤ c.residue.result = omega (arith, ints, read) in
    summed _ _ _ _ _ _ _ _ _ _ c.correction-top.ensures.value c.correction-right.ensures.value c.correction-bottom.ensures.value c.correction-left.ensures.value c.residue.ensures.value (sym sum ∙ equal ∙ minus)
  where
    summed : (a b c d r i j k l z : ℤ) → a ≡ i → b ≡ j → c ≡ k → d ≡ l → r ≡ z → a +ℤ b -ℤ c -ℤ d ≡ neg_ℤ r → i +ℤ j -ℤ k -ℤ l ≡ neg_ℤ z
    summed a b c d r i j k l z p q s t u e = rw (sym p, sym q, sym s, sym t, sym u) e
