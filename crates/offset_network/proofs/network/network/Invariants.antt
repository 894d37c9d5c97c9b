use Rattle.flow_network.specs.Views.{shape_of, state_of}
use Rattle.offset_network.specs.Networks.{IsStarted}
use Rattle.offset_network.proofs.network.network.Given as goal

abbrev pub invariant-loop-lane : goal.invariant-loop-lane
invariant-loop-lane l = IsStarted l.regions l.lanes l.lane-index (shape_of l.net) (state_of l.net)
