use Rattle.std.proofs.Common.{◌≡◌, false}
use Rattle.certificates.specs.TileWords.{FitDown}
use Rattle.certificates.proofs.tile.Tile.fit_down.Given as goal

abbrev pub invariant-loop-x : goal.invariant-loop-x
invariant-loop-x l = l.unfit ≡ false → FitDown l.self l.faces l.y l.x
