use Rattle.std.proofs.Common.{◌*◌}
use Rattle.std.specs.Prelude.{min}
use Rattle.certificates.specs.RowWords.{AreSums}
use Rattle.certificates.proofs.beside.sums_of_strips.Given as goal

abbrev pub invariant-loop-place : goal.invariant-loop-place
invariant-loop-place g l = AreSums l.tile (g.H.Heights.cycles_at l.heights) l.faces 0 (min (l.place * l.fn.rows) l.tile.sheet.phase.now.height) l.sums
