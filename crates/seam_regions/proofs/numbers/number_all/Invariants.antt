use Rattle.std.proofs.Common.{◌*◌}
use Rattle.raster_model.specs.Masks.{open_at}
use Rattle.seam_regions.specs.Flood.{HasNumbered}
use Rattle.seam_regions.proofs.numbers.number_all.Given as goal

abbrev pub invariant-loop-y : goal.invariant-loop-y
invariant-loop-y l = HasNumbered l.tiling (open_at l.mask) (l.y * l.tiling.width) l.count l.labels
