use Rattle.std.proofs.Common.{arith}
use Rattle.nearest_surface.proofs.ValueLemmas.{rise_is}
use Rattle.nearest_surface.proofs.value.rise_to.Goals as goal

pub returns : goal.returns
returns c =
    let small = c.ranges.phase.fits in
    rise_is c.args.phase c.args.given c.from.result c.from-2.result (omega (arith, small)) c.ranges.given c.from.ensures c.from-2.ensures c.rem_euclid.result c.rem_euclid.ensures.value
