-- Boards after more work.
use Rattle.std.specs.Prelude.{◌≡◌, ℕ, zero, suc, ◌+◌, ◌-◌, ◌<◌, Bool, true, false, if◌then◌else◌, None, List, ◌++◌, length}
use Rattle.raster_model.specs.Tiles.{tiles_of}
use Rattle.tile_board.specs.declared.entry.Entry.{Entry}
use Rattle.tile_board.specs.BoardView.{BoardView}
use Rattle.tile_board.specs.Histories.{AreAllKept, done_by, is_kept, newest_of, next_command, now_of, script_of}

-- a history begins with another
abbrev pub Continues : List Entry → List Entry → Type 0
Continues H K = (more : List Entry) × (H ≡ K ++ more)

-- ---- words of helpers, which no clause of a public function cites

-- the session is the same, and the history begins with the old one
pub record IsLater (old new : BoardView) : Type 0 where
  pub session : new.session ≡ old.session
  pub begins : Continues new.entries old.entries

-- and only tiles were kept: no command was done, no edit made, and nothing published
pub record OnlyKept (old new : BoardView) : Type 0 where
  pub later : IsLater old new
  pub done : (a : ℕ) → done_by a new.entries ≡ done_by a old.entries
  pub now : now_of new.entries ≡ now_of old.entries
  pub newest : newest_of new.entries ≡ newest_of old.entries

-- how many numbers below n fail a test
unfoldable pub failing : ℕ → (ℕ → Bool) → ℕ
failing zero p = 0
failing (suc n) p = (if p n then 0 else 1) + failing n p

-- how many tiles are not kept, and how many commands an analyst has not done
abbrev pub tiles_left : BoardView → ℕ
tiles_left board = failing (tiles_of board.session.scene.tiling) (is_kept board.session board.entries)

abbrev pub commands_left : ℕ → BoardView → ℕ
commands_left analyst board = length (script_of board.session analyst) - done_by analyst board.entries

-- a tile more is kept; or all were
abbrev pub KeepsMore : BoardView → BoardView → Bool → Type 0
KeepsMore old new true = tiles_left new < tiles_left old
KeepsMore old new false = AreAllKept new.session new.entries

-- a command more is done; or all were
abbrev pub DoesMore : ℕ → BoardView → BoardView → Bool → Type 0
DoesMore analyst old new true = commands_left analyst new < commands_left analyst old
DoesMore analyst old new false = next_command new.session new.entries analyst ≡ None
