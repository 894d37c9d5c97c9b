use Rattle.std.proofs.Common.{rules, arith, ◌≡◌, ◌<◌, ◌^◌, ◌∙◌, inl, inr, FitsSigned, to_z, of_z}
use Rattle.std.specs.Prelude.{ℤ, pos, ◌+ℤ◌, get_or, length, unsigned_abs}
use Rattle.std.specs.Int.{w64}
use Rattle.std.proofs.lemmas.Int.{ints}
use Rattle.std.proofs.lemmas.Bool.{cases_eq}
use Rattle.std.proofs.lemmas.List.{get_or-set_same, get_or-set_other}
use Rattle.flow_network.proofs.slices.add_each.Goals as goal

-- the sum as the code has it
sum_is : (x y : ℤ) → FitsSigned w64 x → FitsSigned w64 y → unsigned_abs (x +ℤ y) < 2 ^ 62 → to_z w64 (of_z w64 (to_z w64 (of_z w64 x) +ℤ to_z w64 (of_z w64 y))) ≡ x +ℤ y
sum_is x y fx fy within = omega (arith, ints)

pub loop-i-preserved : goal.loop-i-preserved
loop-i-preserved c =
    let i = c.loop-i.i in
    let first = c.args.values.now in
    let old = c.loop-i.values in
    let inv = c.loop-i.invariant in
    let x : ℤ = get_or old i (pos 0) in
    let y : ℤ = get_or c.args.amounts.now i (pos 0) in
    let below : i < length first = omega (arith, c.loop-i-test.true) in
    let l : i < length old = omega (arith, below, c.loop-i.auto.values) in
    let fx : FitsSigned w64 x = search rules in
    let fy : FitsSigned w64 y = search rules in
    let at : x ≡ get_or first i (pos 0) = inv.rest i (omega arith) in
    let value : to_z w64 (of_z w64 (to_z w64 (of_z w64 x) +ℤ to_z w64 (of_z w64 y))) ≡ x +ℤ y = sum_is x y fx fy (rw at (c.requires.within i below)) in
    record {
      done = λ k m. (
          elim (cases_eq k i) [
            | inl q ↦ rw q (get_or-set_same old i (to_z w64 (of_z w64 (to_z w64 (of_z w64 x) +ℤ to_z w64 (of_z w64 y)))) (pos 0) l ∙ value ∙ rw at)
            | inr q ↦ get_or-set_other old i k (to_z w64 (of_z w64 (to_z w64 (of_z w64 x) +ℤ to_z w64 (of_z w64 y)))) (pos 0) q ∙ inv.done k (omega (arith, q, m))
          ]);
      rest = λ k m. get_or-set_other old i k (to_z w64 (of_z w64 (to_z w64 (of_z w64 x) +ℤ to_z w64 (of_z w64 y)))) (pos 0) (λ q. omega (arith, q, m)) ∙ inv.rest k (omega (arith, m));
    }
