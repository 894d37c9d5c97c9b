use Rattle.std.proofs.Common.{◌≡◌, ◌-◌, ◌*◌, ◌≤◌, pos}
use Rattle.raster_model.specs.Sums.{sum_row}
use Rattle.surface_snapshots.specs.Loops.{AreOfEdges}
use Rattle.surface_snapshots.specs.Strips.{seam_costs_from, tile_costs_from}
use Rattle.surface_snapshots.proofs.blocks.costs_of_row.Given as goal

abbrev pub invariant-loop-x : goal.invariant-loop-x
invariant-loop-x l = record {
  within : l.x ≤ l.block.surface.scene.now.phase.width;
  tiles : pos l.costs.tiles ≡ sum_row l.x (tile_costs_from l.block.surface) l.y;
  seams : pos l.costs.seams ≡ sum_row l.x (seam_costs_from l.block.surface) l.y;
  small : AreOfEdges (2 * l.x) l.costs;
}

abbrev pub decreases-loop-x : goal.decreases-loop-x
decreases-loop-x l = l.block.surface.scene.now.phase.width - l.x
