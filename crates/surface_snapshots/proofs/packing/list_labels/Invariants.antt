use Rattle.surface_snapshots.specs.Packing.{AreLabelsBefore}
use Rattle.surface_snapshots.proofs.packing.list_labels.Given as goal

abbrev pub invariant-loop-y : goal.invariant-loop-y
invariant-loop-y l = AreLabelsBefore l.all l.width l.window l.y l.list.items
