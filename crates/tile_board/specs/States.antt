-- What a board holds besides the history, and that it is what the history says. No clause of a public function cites this file.
use Rattle.std.specs.Prelude.{◌≡◌, ◌≢◌, ℕ, ◌+◌, ◌<◌, ◌≤◌, Option, Some, None, List, [], ◌∷◌, ◌++◌, length, map, option_map, slice_get, slice_index, sum}
use Rattle.std.specs.Arc.{arc_value}
use Rattle.std.specs.declared.alloc.Global.{Global}
use Rattle.std.specs.declared.sync.Arc.{Arc}
use Rattle.raster_model.specs.declared.session.Session.{Session}
use Rattle.raster_model.specs.Masks.{open_at}
use Rattle.certificates.specs.declared.results.SeamResult.{SeamResult}
use Rattle.certificates.specs.declared.results.TileResult.{TileResult}
use Rattle.certificates.specs.declared.verdicts.SeamVerdict.TheVariants.{Good}
use Rattle.mask_revisions.specs.Revisions.{AreRevisionsOf}
use Rattle.mask_revisions.specs.RevisionsView.{RevisionsView}
use Rattle.surface_snapshots.specs.Parts.{Parts}
use Rattle.surface_snapshots.specs.Verdicts.{IsPartsVerdict}
use Rattle.tile_board.specs.declared.answers.PublishFault.{PublishFault}
use Rattle.tile_board.specs.declared.answers.PublishFault.TheVariants.{NotSettle, Stale, Double, Unready, Uncertified, Memory}
use Rattle.tile_board.specs.declared.entry.Entry.{Entry}
use Rattle.tile_board.specs.declared.entry.Entry.TheVariants.{Revised, Kept, Published, Settled, Shown}
use Rattle.tile_board.specs.Boards.{IsBoard}
use Rattle.tile_board.specs.BoardView.{BoardView}
use Rattle.tile_board.specs.Calls.{AddsEntry, ArePublishable}
use Rattle.tile_board.specs.Lacking.{AreLackingIn, LackingView}
use Rattle.tile_board.specs.Histories.{AreAllKept, IsLeastLacking, done_by, edits_of, newest_of, now_of}

abbrev pub board_view_of : Session → List Entry → List (Option TileResult) → List Parts → BoardView
board_view_of session entries kept surfaces = record { session = session; entries = entries; kept = kept; surfaces = surfaces }

-- the list has how many commands each analyst has done, from analyst 1 on; no more edits were made than commands done
pub record AreCursors (session : Session) (H : List Entry) (cursors : List ℕ) : Type 0 where
  pub count : length cursors ≡ length session.scripts.items
  pub done : (k : ℕ) → k < length cursors → slice_index cursors k ≡ done_by (k + 1) H
  pub few : now_of H ≤ sum cursors

-- what is held is what a history says: its mask with the stamps of the tiles, how many commands each analyst has done, and the newest publication
pub record TellsHistory (session : Session) (H : List Entry) (held : RevisionsView) (marks : List ℕ) (last : Option ℕ) : Type 0 where
  pub tiling : held.tiling ≡ session.scene.tiling
  pub revisions : AreRevisionsOf (open_at session.first_mask) (edits_of H) held
  pub cursors : AreCursors session H marks
  pub newest : last ≡ newest_of H

pub record IsState (v : BoardView) (held : RevisionsView) (waiting : LackingView) (marks : List ℕ) (last : Option ℕ) : Type 0 where
  pub board : IsBoard v
  pub past : TellsHistory v.session v.entries held marks last
  pub lacking : AreLackingIn v.kept waiting

-- the shared results, of the tiles that have one
abbrev pub held_results : List (Option (Arc TileResult Global)) → List (Option TileResult)
held_results results = map (option_map arc_value) results

-- a tile has a result; all tiles do; a tile has none; it is the lowest-numbered that has none
module _ {A : Type 0} where
  abbrev pub HasResult : List (Option A) → ℕ → Type 0
  HasResult kept t = (k : A) × (slice_get kept t ≡ Some (Some k))

  abbrev pub HaveResults : List (Option A) → Type 0
  HaveResults kept = (t : ℕ) → t < length kept → HasResult kept t

  abbrev pub IsGap : List (Option A) → ℕ → Type 0
  IsGap kept t = slice_get kept t ≡ Some None

  abbrev pub IsFirstGap : List (Option A) → ℕ → Type 0
  IsFirstGap kept t = IsGap kept t × ((u : ℕ) → u < t → HasResult kept u)

-- the entry names the analyst, and is neither an edit nor a publication nor a kept result
abbrev pub IsWithoutOthers : ℕ → Entry → Type 0
IsWithoutOthers analyst (Revised b edit) = ⊥
IsWithoutOthers analyst (Kept t r) = ⊥
IsWithoutOthers analyst (Published b r) = ⊥
IsWithoutOthers analyst (Settled b r) = b ≡ analyst
IsWithoutOthers analyst (Shown b r) = b ≡ analyst

-- why no surface is made: a tile is not kept, or it is not certified, or there is no memory for it
abbrev pub HasSurfaceFault : BoardView → SeamResult → PublishFault → Type 0
HasSurfaceFault v seams NotSettle = ⊥
HasSurfaceFault v seams (Stale r) = ⊥
HasSurfaceFault v seams (Double r) = ⊥
HasSurfaceFault v seams (Unready t) = IsLeastLacking v.session v.entries t
HasSurfaceFault v seams (Uncertified verdict) = AreAllKept v.session v.entries × (verdict ≢ Good) × (parts : Parts) × ArePublishable v seams parts × IsPartsVerdict parts verdict
HasSurfaceFault v seams Memory = AreAllKept v.session v.entries

-- a surface and its entry were added, and nothing else changed
pub record AddsSurface (old new : BoardView) (analyst r : ℕ) (parts : Parts) : Type 0 where
  pub adds : AddsEntry old new (Published analyst r)
  pub kept : new.kept ≡ old.kept
  pub surfaces : new.surfaces ≡ old.surfaces ++ parts ∷ []
