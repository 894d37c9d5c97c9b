use Rattle.std.proofs.Common.{◌≤◌, ◌*◌, ◌^◌, ◌+◌, arith, w64}
use Rattle.std.specs.Prelude.{unsigned_abs}
use Rattle.std.proofs.lemmas.Int.{to_z-of_z}
use Rattle.std.proofs.lemmas.Nat.{mul-le}
use Rattle.certificates.proofs.edge_costs.open_cost.Goals as goal

pub returns-clause-small : goal.returns-clause-small
returns-clause-small g c =
    let d = c.departure-departure.result in
    let same = to_z-of_z w64 d (record { sfits = c.departure-departure.type_inv }) in
    let steps : c.from-2.result ≤ 16 * unsigned_abs d = rw (c.from-2.ensures, ← same) c.steps.ensures.small in
    mul-le c.from.result c.from-2.result 65535 (16 * (2 ^ 49 + 1)) (omega (arith, c.from.ensures, c.stored_weight.type_inv)) (omega (arith, steps, c.departure-departure.ensures.small))
