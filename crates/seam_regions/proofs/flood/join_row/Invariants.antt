use Rattle.std.proofs.Common.{◌≡◌, ◌+◌, ◌-◌, ◌*◌, ◌%◌, ◌<◌, ◌≤◌}
use Rattle.raster_model.specs.Masks.{open_at}
use Rattle.seam_regions.specs.Flood.{HasJoined}
use Rattle.seam_regions.proofs.flood.join_row.Given as goal

abbrev pub invariant-loop-first : goal.invariant-loop-first
invariant-loop-first l = record {
  flood : HasJoined l.tiling (open_at l.mask) (2 * (l.y * l.tiling.width + l.first)) l.parents;
  within : l.first ≤ l.tiling.width;
  begins : l.first < l.tiling.width → l.first % l.tiling.side ≡ 0;
}

abbrev pub decreases-loop-first : goal.decreases-loop-first
decreases-loop-first l = l.tiling.width - l.first
