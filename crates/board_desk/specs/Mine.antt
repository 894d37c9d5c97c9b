-- The entries of one analyst.
use Rattle.std.specs.Prelude.{ℕ, Option, Some, None, List, [], filter}
use Rattle.tile_board.specs.declared.entry.Entry.{Entry}
use Rattle.tile_board.specs.Histories.{names}

-- those that name the analyst, in order; none if there is no analyst
abbrev pub mine_of : Option ℕ → List Entry → List Entry
mine_of None log = []
mine_of (Some analyst) log = filter (names analyst) log
