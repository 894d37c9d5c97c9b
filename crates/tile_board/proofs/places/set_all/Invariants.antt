use Rattle.tile_board.specs.Places.{AreSet}
use Rattle.tile_board.proofs.places.set_all.Given as goal

abbrev pub invariant-loop-place : goal.invariant-loop-place
invariant-loop-place g l = AreSet l.fn.items l.items l.places l.place-index l.value
