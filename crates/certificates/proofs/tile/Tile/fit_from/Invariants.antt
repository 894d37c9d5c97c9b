use Rattle.certificates.specs.RowWords.{FitUpTo}
use Rattle.certificates.proofs.tile.Tile.fit_from.Given as goal

abbrev pub invariant-loop-x : goal.invariant-loop-x
invariant-loop-x l = FitUpTo l.self l.faces l.x l.y
