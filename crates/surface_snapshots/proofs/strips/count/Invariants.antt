use Rattle.std.proofs.Common.{◌*◌}
use Rattle.std.specs.Prelude.{min}
use Rattle.surface_snapshots.specs.Strips.{AreCounted}
use Rattle.surface_snapshots.proofs.strips.count.Given as goal

abbrev pub invariant-loop-place : goal.invariant-loop-place
invariant-loop-place g l = AreCounted l.surface 0 (min (l.place * l.fn.rows) l.surface.scene.now.phase.height) l.costs
