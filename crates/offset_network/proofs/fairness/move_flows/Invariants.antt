use Rattle.std.proofs.Common.{◌*◌}
use Rattle.certificates.specs.Growth.{AreWithinWeights, HasGrown}
use Rattle.offset_network.specs.FairFlows.{brought_before}
use Rattle.offset_network.proofs.fairness.move_flows.Given as goal

abbrev pub invariant-loop-place : goal.invariant-loop-place
invariant-loop-place l = record {
  grown : HasGrown l.fn.sums l.sums (brought_before l.links l.flows l.place);
  sizes : AreWithinWeights (2 * l.place) l.sums;
}
