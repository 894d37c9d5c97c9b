use Rattle.std.proofs.Common.{length, refl}
use Rattle.offset_network.proofs.FairLemmas.{balanced}
use Rattle.offset_network.proofs.fairness.are_balanced.Goals as goal

pub returns : goal.returns
returns c zero =
    balanced (length c.args.sums.now) c.args.sums.now c.move_flows.new.sums c.args.links.now c.args.flows.now (length c.args.links.now) refl c.requires.zeros c.move_flows.ensures (c.are_zeros.ensures zero)
