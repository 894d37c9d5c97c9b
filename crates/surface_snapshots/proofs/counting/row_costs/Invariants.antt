use Rattle.std.proofs.Common.{◌≡◌, ◌-◌, ◌*◌, ◌≤◌, pos}
use Rattle.raster_model.specs.Raster.{lifted, seam_cost_from}
use Rattle.raster_model.specs.Sums.{sum_row}
use Rattle.surface_snapshots.specs.Loops.{AreOfEdges, inner_cost_from}
use Rattle.raster_model.specs.Masks.{open_at}
use Rattle.raster_model.specs.Scene.{raster_of}
use Rattle.surface_snapshots.proofs.counting.row_costs.Given as goal

abbrev pub invariant-loop-x : goal.invariant-loop-x
invariant-loop-x g l = record {
  within : l.x ≤ l.scene.phase.width;
  tiles : pos l.costs.tiles ≡ sum_row l.x (inner_cost_from (raster_of l.scene) (open_at l.mask) (lifted (raster_of l.scene) (g.H.Heights.cycles_at l.heights))) l.y;
  seams : pos l.costs.seams ≡ sum_row l.x (seam_cost_from (raster_of l.scene) (open_at l.mask) (lifted (raster_of l.scene) (g.H.Heights.cycles_at l.heights))) l.y;
  small : AreOfEdges (2 * l.x) l.costs;
}

abbrev pub decreases-loop-x : goal.decreases-loop-x
decreases-loop-x g l = l.scene.phase.width - l.x
