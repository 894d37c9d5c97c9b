use Rattle.std.proofs.Common.{ℕ, Bool}
use Rattle.tile_board.specs.Lacking.{AreLackingWith, lacks_in, without_listed}
use Rattle.tile_board.proofs.lacking.tidy.Given as goal

abbrev pub invariant-loop-tile : goal.invariant-loop-tile
invariant-loop-tile l = (fresh : ℕ → Bool) → AreLackingWith (lacks_in l.kept) fresh l.claims l.fn.keys → AreLackingWith (lacks_in l.kept) (without_listed fresh l.tiles l.tile-index) l.claims l.keys
