use Rattle.raster_model.specs.Plain.{AreDownWeights}
use Rattle.raster_model.proofs.plain.down_weights.Given as goal

abbrev pub invariant-loop-place : goal.invariant-loop-place
invariant-loop-place l = AreDownWeights l.rule l.weights l.place l.list.items
