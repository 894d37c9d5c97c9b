-- Histories of a session: what follows from their entries, which entry may come next, which histories are legal and which complete. Each word looks back in the list of entries.
use Rattle.std.specs.Prelude.{◌≡◌, ◌≢◌, ℕ, zero, suc, ◌-◌, ◌<◌, Bool, false, ◌&&◌, ◌==◌, IsTrue, IsFalse, Option, Some, None, List, [], length, take, slice_get, count_by, filter_map}
use Rattle.std.specs.List.{list_any}
use Rattle.raster_model.specs.declared.script.Command.{Command}
use Rattle.raster_model.specs.declared.script.Command.TheVariants.{Change, Settle, Show}
use Rattle.raster_model.specs.declared.script.Edit.{Edit}
use Rattle.raster_model.specs.declared.script.Script.{Script}
use Rattle.raster_model.specs.declared.session.Session.{Session}
use Rattle.raster_model.specs.Masks.{open_at}
use Rattle.raster_model.specs.Sums.{Field}
use Rattle.raster_model.specs.Tiles.{tiles_of}
use Rattle.mask_revisions.specs.Edits.{mask_at, stamp_of}
use Rattle.tile_board.specs.declared.entry.Entry.{Entry}
use Rattle.tile_board.specs.declared.entry.Entry.TheVariants.{Revised, Kept, Published, Settled, Shown}

-- what an entry says: the edit, the revision that it published, whether it kept a tile at a stamp, whether it names an analyst
abbrev pub edit_of : Entry → Option Edit
edit_of (Revised a edit) = Some edit
edit_of (Kept t r) = None
edit_of (Published a r) = None
edit_of (Settled a r) = None
edit_of (Shown a r) = None

abbrev pub published_of : Entry → Option ℕ
published_of (Revised a edit) = None
published_of (Kept t r) = None
published_of (Published a r) = Some r
published_of (Settled a r) = None
published_of (Shown a r) = None

abbrev pub keeps : ℕ → ℕ → Entry → Bool
keeps tile stamp (Revised a edit) = false
keeps tile stamp (Kept t r) = (t == tile) && (r == stamp)
keeps tile stamp (Published a r) = false
keeps tile stamp (Settled a r) = false
keeps tile stamp (Shown a r) = false

abbrev pub names : ℕ → Entry → Bool
names analyst (Revised a edit) = a == analyst
names analyst (Kept t r) = false
names analyst (Published a r) = a == analyst
names analyst (Settled a r) = a == analyst
names analyst (Shown a r) = a == analyst

-- the edits of a history, and the present revision
abbrev pub edits_of : List Entry → List Edit
edits_of H = filter_map edit_of H

abbrev pub now_of : List Entry → ℕ
now_of H = length (edits_of H)

-- the mask at a revision, the present one, and the stamp of a tile
abbrev pub mask_in : Session → List Entry → ℕ → Field Bool
mask_in session H revision = mask_at (open_at session.first_mask) (edits_of H) revision

abbrev pub present_mask : Session → List Entry → Field Bool
present_mask session H = mask_in session H (now_of H)

abbrev pub stamp_in : Session → List Entry → ℕ → ℕ
stamp_in session H tile = stamp_of session.scene.tiling (open_at session.first_mask) (edits_of H) tile

-- whether the history kept a tile at its stamp; it kept all tiles; a tile is the lowest-numbered that it did not keep
abbrev pub is_kept : Session → List Entry → ℕ → Bool
is_kept session H tile = list_any (keeps tile (stamp_in session H tile)) H

abbrev pub AreAllKept : Session → List Entry → Type 0
AreAllKept session H = (tile : ℕ) → tile < tiles_of session.scene.tiling → IsTrue (is_kept session H tile)

pub record IsLeastLacking (session : Session) (H : List Entry) (tile : ℕ) : Type 0 where
  pub exists : tile < tiles_of session.scene.tiling
  pub lacking : IsFalse (is_kept session H tile)
  pub least : (u : ℕ) → u < tile → IsTrue (is_kept session H u)

-- the published revisions in order, and the newest
abbrev pub published_in : List Entry → List ℕ
published_in H = filter_map published_of H

abbrev pub newest_of : List Entry → Option ℕ
newest_of H = slice_get (published_in H) (length (published_in H) - 1)

-- the script of an analyst; a number that is no analyst's, such as 0, has an empty one
abbrev pub commands_of : Option Script → List Command
commands_of None = []
commands_of (Some script) = script.commands.items

abbrev pub script_in : List Script → ℕ → List Command
script_in scripts zero = []
script_in scripts (suc k) = commands_of (slice_get scripts k)

abbrev pub script_of : Session → ℕ → List Command
script_of session analyst = script_in session.scripts.items analyst

-- how many commands an analyst has done, and its next command
abbrev pub done_by : ℕ → List Entry → ℕ
done_by analyst H = count_by (names analyst) H

abbrev pub next_command : Session → List Entry → ℕ → Option Command
next_command session H analyst = slice_get (script_of session analyst) (done_by analyst H)

-- the entry may come next in the history
abbrev pub IsStep : Session → List Entry → Entry → Type 0
IsStep session H (Revised a edit) = next_command session H a ≡ Some (Change edit)
IsStep session H (Kept t r) = (t < tiles_of session.scene.tiling) × (r ≡ stamp_in session H t) × IsFalse (is_kept session H t)
IsStep session H (Published a r) = (next_command session H a ≡ Some Settle) × (r ≡ now_of H) × (newest_of H ≢ Some r) × AreAllKept session H
IsStep session H (Settled a r) = (next_command session H a ≡ Some Settle) × (r ≡ now_of H) × (newest_of H ≡ Some r)
IsStep session H (Shown a r) = (next_command session H a ≡ Some Show) × (r ≡ newest_of H)

-- each entry may come after those before it; every script is at its end
abbrev pub IsLegal : Session → List Entry → Type 0
IsLegal session H = (n : ℕ) (entry : Entry) → slice_get H n ≡ Some entry → IsStep session (take n H) entry

abbrev pub IsComplete : Session → List Entry → Type 0
IsComplete session H = (analyst : ℕ) → next_command session H analyst ≡ None
