use Rattle.tile_board.specs.Lacking.{AreAddedFresh}
use Rattle.tile_board.proofs.lacking.add_fresh.Given as goal

abbrev pub invariant-loop-tile : goal.invariant-loop-tile
invariant-loop-tile l = AreAddedFresh l.fn.keys l.keys l.tiles l.tile-index
