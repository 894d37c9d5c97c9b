use Rattle.loop_closure.specs.Parts.{HaveCycles}
use Rattle.loop_closure.proofs.cycles.put_cycles.Given as goal

abbrev pub invariant-loop-place : goal.invariant-loop-place
invariant-loop-place l = HaveCycles l.closures l.place l.cycles
