use Rattle.std.proofs.Common.{◌*◌}
use Rattle.joined_cells.specs.Flood.{IsNumbered}
use Rattle.joined_cells.proofs.trees.number_all.Given as goal

abbrev pub invariant-loop-y : goal.invariant-loop-y
invariant-loop-y g l = IsNumbered (g.T.EdgeTest.joining l.test) (l.y * (g.T.EdgeTest.joining l.test).width) l.count l.labels
