use Rattle.std.proofs.Common.{◌≡◌, ◌+◌, ◌*◌, ◌≤◌, ◌^◌, pos}
use Rattle.raster_model.specs.Masks.{open_at}
use Rattle.raster_model.specs.Raster.{lifted, seam_cost_from}
use Rattle.raster_model.specs.Scene.{raster_of}
use Rattle.raster_model.specs.Sums.{sum_grid}
use Rattle.certificates.proofs.seam_costs.seam_cost.Given as goal

abbrev pub invariant-loop-y : goal.invariant-loop-y
invariant-loop-y g l = record {
  sum : pos l.cost ≡ sum_grid l.scene.phase.width l.y (seam_cost_from (raster_of l.scene) (open_at l.mask) (lifted (raster_of l.scene) (g.H.Heights.cycles_at l.heights)));
  small : l.cost ≤ 2 * 1048560 * (2 ^ 49 + 1) * 4096 * l.y;
}
