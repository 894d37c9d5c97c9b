-- What a replay of a history holds, and what its calls do. No clause of a public function cites this file.
use Rattle.std.specs.Prelude.{◌≡◌, ◌↔◌, ℕ, ◌+◌, ◌-◌, ◌<◌, ◌≤◌, ◌^◌, Bool, IsTrue, Option, Some, None, List, [], ◌∷◌, ◌++◌, length, map, slice_index, slice_index_or, slice_set}
use Rattle.raster_model.specs.declared.script.Edit.{Edit}
use Rattle.raster_model.specs.declared.session.Session.{Session}
use Rattle.raster_model.specs.Masks.{open_at}
use Rattle.raster_model.specs.Sums.{Field}
use Rattle.raster_model.specs.Tiles.{tiles_of}
use Rattle.mask_revisions.specs.Revisions.{AreChanged, AreRevisionsOf}
use Rattle.mask_revisions.specs.RevisionsView.{RevisionsView}
use Rattle.tile_board.specs.declared.entry.Entry.{Entry}
use Rattle.tile_board.specs.declared.entry.Entry.TheVariants.{Revised, Kept, Published, Settled, Shown}
use Rattle.tile_board.specs.Histories.{IsComplete, IsLegal, IsStep, is_kept}
use Rattle.tile_board.specs.Places.{AreSet}
use Rattle.tile_board.specs.States.{TellsHistory}
use Rattle.report_text.specs.declared.items.Item.{Item}
use Rattle.report_text.specs.Contents.{told_item}
use Rattle.report_check.specs.declared.replay.Replay.{Replay}

-- the entries of items, as these are told
abbrev pub entries_in : List Item → List Entry
entries_in items = map (λ i. i.entry) (map told_item items)

-- what is held is what the history says: its mask with the stamps, whether each tile is kept, how many commands each analyst has done, the newest publication
pub record IsReplay (session : Session) (H : List Entry) (held : RevisionsView) (tiles : List Bool) (marks : List ℕ) (last : Option ℕ) : Type 0 where
  pub legal : IsLegal session H
  pub past : TellsHistory session H held marks last
  pub count : length tiles ≡ tiles_of session.scene.tiling
  pub kept : (t : ℕ) → t < tiles_of session.scene.tiling → slice_index_or tiles t Bool.false ≡ is_kept session H t

abbrev pub IsReplayOf : Session → List Entry → Replay → Type 0
IsReplayOf session H replay = IsReplay session H replay.revisions replay.kept.items replay.cursors.items replay.newest

-- what is held is what some history says; and that of one of some session, after which an entry may come
abbrev pub IsReplaying : Session → Replay → Type 0
IsReplaying session replay = (H : List Entry) × IsReplayOf session H replay

abbrev pub MayTake : Replay → Entry → Type 0
MayTake replay entry = (session : Session) × ((H : List Entry) × (IsReplayOf session H replay × IsStep session H entry))

-- whatever the history is: a test tells whether an entry may come next, and whether all scripts are at their ends; an entry was taken
abbrev pub TellsStep : Session → Replay → Entry → Bool → Type 0
TellsStep session replay entry test = (H : List Entry) → IsReplayOf session H replay → IsTrue test ↔ IsStep session H entry

abbrev pub TellsComplete : Session → Replay → Bool → Type 0
TellsComplete session replay test = (H : List Entry) → IsReplayOf session H replay → IsTrue test ↔ IsComplete session H

abbrev pub TakesEntry : Replay → Replay → Entry → Type 0
TakesEntry old new entry = (session : Session) (H : List Entry) → IsReplayOf session H old → IsStep session H entry → IsReplayOf session (H ++ entry ∷ []) new

-- who does a command with an entry
abbrev pub doer : Entry → Option ℕ
doer (Revised a edit) = Some a
doer (Kept tile stamp) = None
doer (Published a revision) = Some a
doer (Settled a revision) = Some a
doer (Shown a revision) = Some a

-- a command of an analyst can be counted, and is
abbrev pub CanCount : List ℕ → ℕ → Type 0
CanCount marks a = (1 ≤ a) × (a - 1 < length marks) × (slice_index marks (a - 1) + 1 < 2 ^ 32)

abbrev pub counted : List ℕ → Option ℕ → List ℕ
counted marks None = marks
counted marks (Some a) = slice_set marks (a - 1) (slice_index marks (a - 1) + 1)

-- an edit was applied, and the tiles with a pixel that changed are kept no longer
pub record IsRevised (old new : Replay) (edit : Edit) : Type 0 where
  pub tiling : new.revisions.tiling ≡ old.revisions.tiling
  pub next : (first : Field Bool) (edits : List Edit) → AreRevisionsOf first edits old.revisions → AreRevisionsOf first (edits ++ edit ∷ []) new.revisions
  pub tiles : List ℕ
  pub changed : AreChanged old.revisions.tiling (open_at old.revisions.mask) (open_at new.revisions.mask) tiles
  pub cleared : AreSet old.kept.items new.kept.items tiles (length tiles) Bool.false
  pub cursors : new.cursors.items ≡ old.cursors.items
  pub newest : new.newest ≡ old.newest
