use Rattle.std.proofs.Common.{◌-◌, ◌*◌}
use Rattle.raster_model.specs.Masks.{open_at}
use Rattle.raster_model.specs.Tiles.{width_of}
use Rattle.mask_revisions.specs.Windows.{AreListedBefore}
use Rattle.mask_revisions.proofs.revisions.Revisions.window_mask.Given as goal

abbrev pub invariant-loop-y : goal.invariant-loop-y
invariant-loop-y l = AreListedBefore l.window (open_at l.self-inside.mask) ((l.y - l.window.y0) * width_of l.window) l.list.items
