use Rattle.std.proofs.Common.{◌*◌}
use Rattle.auto_masks.specs.Flood.{HasJoined}
use Rattle.auto_masks.proofs.flood.join_all.Given as goal

abbrev pub invariant-loop-y : goal.invariant-loop-y
invariant-loop-y l = HasJoined l.extent l.keys (2 * (l.y * l.extent.width)) l.parents
