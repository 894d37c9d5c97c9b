use Rattle.auto_masks.specs.Flood.{HasNumbered}
use Rattle.auto_masks.proofs.labels.number_all.Given as goal

abbrev pub invariant-loop-place : goal.invariant-loop-place
invariant-loop-place l = HasNumbered l.fn.extent l.keys l.place l.count l.labels
