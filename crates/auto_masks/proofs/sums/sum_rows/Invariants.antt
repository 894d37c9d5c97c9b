use Rattle.std.proofs.Common.{◌+◌, ◌*◌}
use Rattle.raster_model.specs.Masks.{open_at}
use Rattle.auto_masks.specs.Screened.{is_strong}
use Rattle.auto_masks.specs.Sums.{AreSummed}
use Rattle.auto_masks.proofs.sums.sum_rows.Given as goal

abbrev pub invariant-loop-y : goal.invariant-loop-y
invariant-loop-y l = AreSummed l.weights.width (is_strong l.fn.terms l.weights (open_at l.mask)) ((l.y + 1) * (l.weights.width + 1)) l.sums
