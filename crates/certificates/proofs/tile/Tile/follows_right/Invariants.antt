use Rattle.std.proofs.Common.{◌≡◌, false}
use Rattle.certificates.specs.TileWords.{TileFollowsRight}
use Rattle.certificates.proofs.tile.Tile.follows_right.Given as goal

abbrev pub invariant-loop-x : goal.invariant-loop-x
invariant-loop-x g l = l.departs ≡ false → TileFollowsRight l.self (g.H.Heights.cycles_at l.heights) l.y l.x
