use Rattle.std.proofs.Common.{◌≡◌, ◌^◌, ◌≤◌, ◌∙◌, ap₂, arith, ℤ, ◌+ℤ◌, to_z, of_z, w64}
use Rattle.std.specs.Prelude.{unsigned_abs}
use Rattle.std.proofs.lemmas.Int.{ints}
use Rattle.surface_snapshots.proofs.shifted.ShiftedTiles.at.Goals as goal

-- at 64 bits
sum_plain : (a b : ℤ) → unsigned_abs a ≤ 8388608 → unsigned_abs b ≤ 2 ^ 46 → to_z w64 (of_z w64 (to_z w64 (of_z w64 a) +ℤ to_z w64 (of_z w64 b))) ≡ a +ℤ b
sum_plain a b p q = omega (arith, ints, p, q)

pub returns-clause-value : goal.returns-clause-value
returns-clause-value c = sum_plain c.solved.result c.offset.result c.solved.ensures.small c.offset.ensures.small ∙ ap₂ (λ (a b : ℤ). a +ℤ b) c.solved.ensures.value c.offset.ensures.value
