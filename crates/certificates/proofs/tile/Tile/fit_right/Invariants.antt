use Rattle.std.proofs.Common.{◌≡◌, false}
use Rattle.certificates.specs.TileWords.{FitRight}
use Rattle.certificates.proofs.tile.Tile.fit_right.Given as goal

abbrev pub invariant-loop-x : goal.invariant-loop-x
invariant-loop-x l = l.unfit ≡ false → FitRight l.self l.faces l.y l.x
