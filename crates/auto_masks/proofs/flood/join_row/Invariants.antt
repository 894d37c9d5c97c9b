use Rattle.std.proofs.Common.{◌+◌, ◌*◌}
use Rattle.auto_masks.specs.Flood.{HasJoined}
use Rattle.auto_masks.proofs.flood.join_row.Given as goal

abbrev pub invariant-loop-x : goal.invariant-loop-x
invariant-loop-x l = HasJoined l.extent l.keys (2 * (l.y * l.extent.width + l.x)) l.parents
