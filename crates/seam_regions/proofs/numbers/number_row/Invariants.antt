use Rattle.std.proofs.Common.{◌+◌, ◌-◌, ◌*◌, ◌≤◌}
use Rattle.raster_model.specs.Masks.{open_at}
use Rattle.seam_regions.specs.Flood.{HasNumbered}
use Rattle.seam_regions.proofs.numbers.number_row.Given as goal

abbrev pub invariant-loop-first : goal.invariant-loop-first
invariant-loop-first l = record {
  numbers : HasNumbered l.tiling (open_at l.mask) (l.y * l.tiling.width + l.first) l.given l.labels;
  within : l.first ≤ l.tiling.width;
}

abbrev pub decreases-loop-first : goal.decreases-loop-first
decreases-loop-first l = l.tiling.width - l.first
