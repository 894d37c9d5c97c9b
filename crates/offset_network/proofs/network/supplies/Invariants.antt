use Rattle.offset_network.specs.Networks.{AreSupplies}
use Rattle.offset_network.proofs.network.supplies.Given as goal

abbrev pub invariant-loop-lane : goal.invariant-loop-lane
invariant-loop-lane l = AreSupplies l.regions l.lanes l.lane-index l.supplies.items
