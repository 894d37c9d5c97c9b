use Rattle.std.proofs.Common.{◌+◌, ◌-◌, ◌*◌}
use Rattle.raster_model.specs.Masks.{open_at}
use Rattle.raster_model.specs.Tiles.{width_of}
use Rattle.mask_revisions.specs.Windows.{AreListedBefore}
use Rattle.mask_revisions.proofs.revisions.add_row.Given as goal

abbrev pub invariant-loop-x : goal.invariant-loop-x
invariant-loop-x l = AreListedBefore l.fn.window (open_at l.mask) ((l.y - l.fn.window.y0) * width_of l.fn.window + (l.x - l.fn.window.x0)) l.list.items
