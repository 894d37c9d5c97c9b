use Rattle.surface_snapshots.specs.Strips.{AreCounted}
use Rattle.surface_snapshots.proofs.blocks.costs_of_rows.Given as goal

abbrev pub invariant-loop-y : goal.invariant-loop-y
invariant-loop-y l = AreCounted l.block.surface l.first l.y l.costs
