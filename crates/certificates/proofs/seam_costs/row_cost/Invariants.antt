use Rattle.std.proofs.Common.{◌≡◌, ◌+◌, ◌*◌, ◌≤◌, ◌^◌, pos, ◌-◌}
use Rattle.raster_model.specs.Masks.{open_at}
use Rattle.raster_model.specs.Raster.{lifted, seam_cost_from}
use Rattle.raster_model.specs.Scene.{raster_of}
use Rattle.raster_model.specs.Sums.{sum_row}
use Rattle.certificates.proofs.seam_costs.row_cost.Given as goal

abbrev pub invariant-loop-x : goal.invariant-loop-x
invariant-loop-x g l = record {
  within : l.x ≤ l.scene.phase.width;
  sum : pos l.cost ≡ sum_row l.x (seam_cost_from (raster_of l.scene) (open_at l.mask) (lifted (raster_of l.scene) (g.H.Heights.cycles_at l.heights))) l.y;
  small : l.cost ≤ 2 * 1048560 * (2 ^ 49 + 1) * l.x;
}

abbrev pub decreases-loop-x : goal.decreases-loop-x
decreases-loop-x g l = l.scene.phase.width - l.x
