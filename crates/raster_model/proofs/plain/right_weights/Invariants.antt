use Rattle.raster_model.specs.Plain.{AreRightWeights}
use Rattle.raster_model.proofs.plain.right_weights.Given as goal

abbrev pub invariant-loop-place : goal.invariant-loop-place
invariant-loop-place l = AreRightWeights l.rule l.weights l.place l.list.items
