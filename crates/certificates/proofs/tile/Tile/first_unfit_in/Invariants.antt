use Rattle.certificates.specs.EdgeWords.{HoldsBefore}
use Rattle.certificates.specs.TileWords.{IsInner, FitAt}
use Rattle.certificates.proofs.tile.Tile.first_unfit_in.Given as goal

abbrev pub invariant-loop-x : goal.invariant-loop-x
invariant-loop-x l = HoldsBefore (IsInner l.self) (FitAt l.self l.faces) l.x l.y
