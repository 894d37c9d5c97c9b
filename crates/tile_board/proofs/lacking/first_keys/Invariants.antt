use Rattle.std.proofs.Common.{◌≡◌, ℕ}
use Rattle.std.specs.Prelude.{◌&&◌, ◌==◌}
use Rattle.tile_board.specs.Lacking.{has_key, is_below}
use Rattle.tile_board.proofs.lacking.first_keys.Given as goal

abbrev pub invariant-loop-tile : goal.invariant-loop-tile
invariant-loop-tile l = (c t : ℕ) → has_key l.keys c t ≡ (is_below l.tile t && (c == 0))
