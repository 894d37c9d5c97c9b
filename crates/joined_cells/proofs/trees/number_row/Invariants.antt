use Rattle.std.proofs.Common.{◌+◌, ◌*◌}
use Rattle.joined_cells.specs.Flood.{IsNumbered}
use Rattle.joined_cells.proofs.trees.number_row.Given as goal

abbrev pub invariant-loop-x : goal.invariant-loop-x
invariant-loop-x g l = IsNumbered (g.T.EdgeTest.joining l.test) (l.y * (g.T.EdgeTest.joining l.test).width + l.x) l.count l.labels
