use Rattle.flow_network.specs.Views.{state_of}
use Rattle.offset_network.specs.Networks.{AreLowered}
use Rattle.offset_network.proofs.answer.lowered.Given as goal

abbrev pub invariant-loop-region : goal.invariant-loop-region
invariant-loop-region l = AreLowered l.start (state_of l.net) l.by l.region l.offsets.items
