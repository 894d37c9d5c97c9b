use Rattle.std.proofs.Common.{◌+◌, ◌*◌}
use Rattle.joined_cells.specs.Flood.{IsFlood}
use Rattle.joined_cells.proofs.flood.join_row.Given as goal

abbrev pub invariant-loop-x : goal.invariant-loop-x
invariant-loop-x g l = IsFlood (g.T.EdgeTest.joining l.test) (2 * (l.y * (g.T.EdgeTest.joining l.test).width + l.x)) l.parents
