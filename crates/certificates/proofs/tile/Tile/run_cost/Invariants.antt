use Rattle.std.proofs.Common.{◌≡◌, pos, ◌*◌, ◌+◌, ◌≤◌, ◌^◌}
use Rattle.raster_model.specs.Sums.{sum_row}
use Rattle.certificates.specs.TileWords.{cost_at}
use Rattle.certificates.proofs.tile.Tile.run_cost.Given as goal

abbrev pub invariant-loop-column : goal.invariant-loop-column
invariant-loop-column g l = record {
  sum : pos l.cost ≡ sum_row l.column (cost_at l.self (g.H.Heights.cycles_at l.heights)) l.y;
  small : l.cost ≤ 2 * 1048560 * (2 ^ 49 + 1) * l.column;
}
