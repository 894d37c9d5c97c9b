use Rattle.certificates.specs.RowWords.{AreSums}
use Rattle.certificates.proofs.tile.Tile.sums_of_rows.Given as goal

abbrev pub invariant-loop-y : goal.invariant-loop-y
invariant-loop-y g l = AreSums l.self (g.H.Heights.cycles_at l.heights) l.faces l.first l.y l.sums
