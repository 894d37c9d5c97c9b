use Rattle.std.proofs.Common.{◌*◌}
use Rattle.raster_model.specs.Masks.{open_at}
use Rattle.seam_regions.specs.Flood.{HasJoined}
use Rattle.seam_regions.proofs.flood.join_all.Given as goal

abbrev pub invariant-loop-y : goal.invariant-loop-y
invariant-loop-y l = HasJoined l.tiling (open_at l.mask) (2 * (l.y * l.tiling.width)) l.parents
