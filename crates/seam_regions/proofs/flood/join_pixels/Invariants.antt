use Rattle.std.proofs.Common.{◌+◌, ◌*◌}
use Rattle.raster_model.specs.Masks.{open_at}
use Rattle.seam_regions.specs.Flood.{HasJoined}
use Rattle.seam_regions.proofs.flood.join_pixels.Given as goal

abbrev pub invariant-loop-x : goal.invariant-loop-x
invariant-loop-x l = HasJoined l.tiling (open_at l.mask) (2 * (l.piece.y * l.tiling.width + l.x)) l.parents
