use Rattle.std.proofs.Common.{ℕ, ◌<◌}
use Rattle.tile_board.specs.States.{HasResult}
use Rattle.tile_board.proofs.places.first_gap.Given as goal

abbrev pub invariant-loop-tile : goal.invariant-loop-tile
invariant-loop-tile g l = (u : ℕ) → u < l.tile → HasResult l.kept u
