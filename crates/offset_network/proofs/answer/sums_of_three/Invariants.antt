use Rattle.offset_network.specs.Networks.{AreSums}
use Rattle.offset_network.proofs.answer.sums_of_three.Given as goal

abbrev pub invariant-loop-place : goal.invariant-loop-place
invariant-loop-place l = AreSums l.parts l.place l.sums.items
