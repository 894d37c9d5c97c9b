use Rattle.std.proofs.Common.{◌≡◌, pos, ◌*◌, ◌+◌, ◌≤◌, ◌^◌}
use Rattle.raster_model.specs.Sums.{sum_grid}
use Rattle.certificates.specs.TileWords.{cost_at}
use Rattle.certificates.proofs.tile.Tile.cost.Given as goal

abbrev pub invariant-loop-y : goal.invariant-loop-y
invariant-loop-y g l = record {
  sum : pos l.cost ≡ sum_grid l.self.sheet.phase.now.width l.y (cost_at l.self (g.H.Heights.cycles_at l.heights));
  small : l.cost ≤ 2 * 1048560 * (2 ^ 49 + 1) * (65535 * l.y);
}
