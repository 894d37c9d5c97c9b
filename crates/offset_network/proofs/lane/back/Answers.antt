use Rattle.std.proofs.Common.{arith}
use Rattle.std.specs.Prelude.{pos, ◌+ℤ◌}
use Rattle.std.proofs.lemmas.Int.{ints}
use Rattle.offset_network.specs.Lanes.{lane_start}
use Rattle.offset_network.proofs.LaneLemmas.{back_is, toward_within, unsigned_is}
use Rattle.offset_network.proofs.lane.back.Goals as goal

pub overflow_cast-result : goal.overflow_cast-result
overflow_cast-result c =
    let k = c.args.lane in
    let t = toward_within k.departure k.low k.high in
    (unsigned_is _ (pos k.low +ℤ lane_start k) (back_is k.low k.high k.departure _ _ c.requires c.from.ensures c.start_flow.ensures) (omega (arith, ints, t)) (omega (arith, ints, t, c.requires))).0

pub returns : goal.returns
returns c =
    let k = c.args.lane in
    let t = toward_within k.departure k.low k.high in
    (unsigned_is _ (pos k.low +ℤ lane_start k) (back_is k.low k.high k.departure _ _ c.requires c.from.ensures c.start_flow.ensures) (omega (arith, ints, t)) (omega (arith, ints, t, c.requires))).1
