use Rattle.std.proofs.Common.{◌+◌, ◌*◌}
use Rattle.auto_masks.specs.Keeping.{AreScreenedSoFar}
use Rattle.auto_masks.proofs.keeping.keep_row.Given as goal

abbrev pub invariant-loop-x : goal.invariant-loop-x
invariant-loop-x l = AreScreenedSoFar l.patches l.least (l.y * l.patches.width + l.x) l.kept
