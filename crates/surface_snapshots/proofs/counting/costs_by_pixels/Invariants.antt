use Rattle.std.proofs.Common.{◌≡◌, ◌+◌, ◌-◌, ◌*◌, ◌%◌, ◌≤◌, pos}
use Rattle.raster_model.specs.Raster.{lifted, seam_cost_from}
use Rattle.surface_snapshots.specs.Loops.{AddUpTo, AreOfEdges, inner_cost_from}
use Rattle.raster_model.specs.Masks.{open_at}
use Rattle.raster_model.specs.Scene.{raster_of}
use Rattle.surface_snapshots.proofs.counting.costs_by_pixels.Given as goal

abbrev pub invariant-loop-x : goal.invariant-loop-x
invariant-loop-x g l = record {
  tiles : AddUpTo (inner_cost_from (raster_of l.scene) (open_at l.mask) (lifted (raster_of l.scene) (g.H.Heights.cycles_at l.heights))) l.y l.x0 l.x (pos l.costs.tiles);
  seams : AddUpTo (seam_cost_from (raster_of l.scene) (open_at l.mask) (lifted (raster_of l.scene) (g.H.Heights.cycles_at l.heights))) l.y l.x0 l.x (pos l.costs.seams);
  small : AreOfEdges (2 * (l.x - l.x0)) l.costs;
  within : (1 ≤ l.left) × (l.left ≤ l.scene.tiling.side);
  left : (l.x + l.left) % l.scene.tiling.side ≡ 0;
}
