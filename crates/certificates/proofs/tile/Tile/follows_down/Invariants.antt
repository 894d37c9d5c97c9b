use Rattle.std.proofs.Common.{◌≡◌, false}
use Rattle.certificates.specs.TileWords.{TileFollowsDown}
use Rattle.certificates.proofs.tile.Tile.follows_down.Given as goal

abbrev pub invariant-loop-x : goal.invariant-loop-x
invariant-loop-x g l = l.departs ≡ false → TileFollowsDown l.self (g.H.Heights.cycles_at l.heights) l.y l.x
