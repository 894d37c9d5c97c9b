use Rattle.certificates.specs.EdgeWords.{HoldsBefore}
use Rattle.certificates.specs.TileWords.{IsInner, FitAt}
use Rattle.certificates.proofs.tile.Tile.first_unfit.Given as goal

abbrev pub invariant-loop-y : goal.invariant-loop-y
invariant-loop-y l = HoldsBefore (IsInner l.self) (FitAt l.self l.faces) l.self.window.x0 l.y
