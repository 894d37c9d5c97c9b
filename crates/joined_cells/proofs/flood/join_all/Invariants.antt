use Rattle.std.proofs.Common.{◌*◌}
use Rattle.joined_cells.specs.Flood.{IsFlood}
use Rattle.joined_cells.proofs.flood.join_all.Given as goal

abbrev pub invariant-loop-y : goal.invariant-loop-y
invariant-loop-y g l = IsFlood (g.T.EdgeTest.joining l.test) (2 * (l.y * (g.T.EdgeTest.joining l.test).width)) l.parents
