use Rattle.std.proofs.Common.{◌+◌, ◌*◌}
use Rattle.raster_model.specs.Masks.{open_at}
use Rattle.auto_masks.specs.Keys.{AreKeyed}
use Rattle.auto_masks.proofs.screen.Screen.key_row.Given as goal

abbrev pub invariant-loop-x : goal.invariant-loop-x
invariant-loop-x g l = AreKeyed l.self.terms l.weights (open_at l.mask) (l.y * l.weights.width + l.x) l.keys
