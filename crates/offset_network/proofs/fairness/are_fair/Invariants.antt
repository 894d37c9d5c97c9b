use Rattle.offset_network.specs.FairFlows.{AreFairBefore}
use Rattle.offset_network.proofs.fairness.are_fair.Given as goal

abbrev pub invariant-loop-place : goal.invariant-loop-place
invariant-loop-place l = AreFairBefore l.terms.steep l.offsets l.links l.flows l.place
