use Rattle.std.proofs.Common.{◌*◌}
use Rattle.auto_masks.specs.Keeping.{AreScreenedSoFar}
use Rattle.auto_masks.proofs.keeping.keep_rows.Given as goal

abbrev pub invariant-loop-y : goal.invariant-loop-y
invariant-loop-y l = AreScreenedSoFar l.patches l.least (l.y * l.patches.width) l.kept
