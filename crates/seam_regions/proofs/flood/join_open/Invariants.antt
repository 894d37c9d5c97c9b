use Rattle.std.proofs.Common.{◌≡◌, ◌+◌, ◌-◌, ◌*◌}
use Rattle.std.specs.Prelude.{slice_index}
use Rattle.raster_model.specs.Masks.{open_at}
use Rattle.seam_regions.specs.Flood.{HasJoined}
use Rattle.seam_regions.proofs.flood.join_open.Given as goal

abbrev pub invariant-loop-x : goal.invariant-loop-x
invariant-loop-x l = record {
  flood : HasJoined l.tiling (open_at l.mask) (2 * (l.fn.piece.y * l.tiling.width + l.x)) l.parents;
  before : slice_index l.parents (l.fn.piece.y * l.tiling.width + l.x - 1) ≡ l.parent;
}
