use Rattle.std.proofs.Common.{◌≡◌, pos, ◌*◌, ◌+◌, ◌-◌, ◌≤◌, ◌^◌}
use Rattle.raster_model.specs.Sums.{sum_row}
use Rattle.certificates.specs.TileWords.{cost_at}
use Rattle.certificates.proofs.tile.Tile.row_cost.Given as goal

abbrev pub invariant-loop-x : goal.invariant-loop-x
invariant-loop-x g l = record {
  within : (l.self.window.x0 ≤ l.x) × (l.x ≤ l.self.window.x1 + 1);
  sum : pos l.cost ≡ sum_row l.x (cost_at l.self (g.H.Heights.cycles_at l.heights)) l.y;
  small : l.cost ≤ 2 * 1048560 * (2 ^ 49 + 1) * l.x;
}

abbrev pub decreases-loop-x : goal.decreases-loop-x
decreases-loop-x g l = l.window.x1 + 1 - l.x
