use Rattle.std.proofs.Common.{◌≡◌, ◌∙◌, ◌*◌, ◌≤◌, pos, arith, to_z, of_z, w64}
use Rattle.std.specs.Prelude.{◌-ℤ◌, ◌*ℤ◌, unsigned_abs}
use Rattle.std.proofs.lemmas.Int.{ints, to_z-of_z}
use Rattle.std.proofs.lemmas.Nat.{mul-le}
use Rattle.certain_parts.proofs.margin.margin_of.Goals as goal

pub returns-else-size-weight-clause-beyond : goal.returns-else-size-weight-clause-beyond
returns-else-size-weight-clause-beyond c l =
    let q = c.args.steep in
    let w = c.args.weight in
    let n = unsigned_abs c.args.step in
    let few : q * w ≤ 1048560 = mul-le q w 16 65535 c.requires.steepness.1 (omega (arith, c.ranges.weight.fits)) in
    let stepped = to_z-of_z w64 c.args.step c.ranges.step in
    let steep : to_z w64 (of_z w64 c.from.result) ≡ pos q = omega (arith, ints, c.from.ensures, c.requires.steepness) in
    let weight : to_z w64 (of_z w64 c.from-weight.result) ≡ pos w = omega (arith, ints, c.from-weight.ensures, c.ranges.weight.fits) in
    let size : to_z w64 (of_z w64 c.abs-size.result) ≡ pos n = omega (arith, ints, rw stepped at c.abs-size.ensures.value, c.requires.step, few) in
    let further : to_z w64 (of_z w64 (pos q *ℤ pos w)) ≡ pos (q * w) = omega (arith, ints, few) in
    let above : to_z w64 (of_z w64 (pos n -ℤ pos w)) ≡ pos n -ℤ pos w = omega (arith, ints, c.requires.step, few, l) in
    let below : to_z w64 (of_z w64 (pos (q * w) -ℤ pos n)) ≡ pos (q * w) -ℤ pos n = omega (arith, ints, c.requires.step, few) in
    to_z-of_z w64 c.min.result (record { sfits = c.min.type_inv }) ∙ (rw (steep, weight, size, further, above, below) at c.min.ensures.value)
