use Rattle.std.proofs.Common.{◌-◌, ◌*◌, pos}
use Rattle.surface_snapshots.specs.Loops.{AddUpTo, AreOfEdges}
use Rattle.surface_snapshots.specs.Strips.{seam_costs_from, tile_costs_from}
use Rattle.surface_snapshots.proofs.blocks.costs_of_marked.Given as goal

abbrev pub invariant-loop-x : goal.invariant-loop-x
invariant-loop-x l = record {
  tiles : AddUpTo (tile_costs_from l.block.surface) l.y l.x0 l.x (pos l.costs.tiles);
  seams : AddUpTo (seam_costs_from l.block.surface) l.y l.x0 l.x (pos l.costs.seams);
  small : AreOfEdges (2 * (l.x - l.x0)) l.costs;
}
