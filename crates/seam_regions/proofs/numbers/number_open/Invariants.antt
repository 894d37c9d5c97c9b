use Rattle.std.proofs.Common.{◌+◌, ◌*◌}
use Rattle.raster_model.specs.Masks.{open_at}
use Rattle.seam_regions.specs.Flood.{HasNumbered}
use Rattle.seam_regions.proofs.numbers.number_open.Given as goal

abbrev pub invariant-loop-x : goal.invariant-loop-x
invariant-loop-x l = HasNumbered l.tiling (open_at l.mask) (l.y * l.tiling.width + l.x) l.given l.labels
