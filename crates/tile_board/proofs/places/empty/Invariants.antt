use Rattle.std.specs.Prelude.{None}
use Rattle.tile_board.specs.Places.{AreSet}
use Rattle.tile_board.proofs.places.empty.Given as goal

abbrev pub invariant-loop-tile : goal.invariant-loop-tile
invariant-loop-tile g l = AreSet l.fn.kept l.kept l.tiles l.tile-index None
