use Rattle.std.proofs.Common.{ℕ, Bool, length}
use Rattle.tile_board.specs.Lacking.{AreAllFresh, AreLackingWith, with_listed}
use Rattle.tile_board.proofs.lacking.restart.Given as goal

abbrev pub invariant-loop-tile : goal.invariant-loop-tile
invariant-loop-tile l = (lacks fresh : ℕ → Bool) → AreAllFresh fresh l.tiles (length l.tiles) → AreLackingWith lacks fresh l.fn.claims l.fn.keys → AreLackingWith (with_listed lacks l.tiles l.tile-index) fresh l.claims l.keys
