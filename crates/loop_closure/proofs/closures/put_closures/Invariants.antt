use Rattle.loop_closure.specs.Parts.{AreClosed}
use Rattle.loop_closure.proofs.closures.put_closures.Given as goal

abbrev pub invariant-loop-place : goal.invariant-loop-place
invariant-loop-place l = AreClosed l.a l.b l.c l.place l.closures
