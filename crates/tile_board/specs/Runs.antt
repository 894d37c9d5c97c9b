-- Boards through lists of calls, and what holds of them whatever is called.
use Rattle.std.specs.Prelude.{◌≡◌, ℕ, ◌<◌, ◌≤◌, Option, Some, None, List, [], ◌∷◌, slice_get, take, ⊤}
use Rattle.raster_model.specs.declared.session.Session.{Session}
use Rattle.certificates.specs.declared.results.SeamResult.{SeamResult}
use Rattle.raster_model.specs.Tiles.{tile_at, tiles_of}
use Rattle.certificates.specs.declared.results.TileResult.{TileResult}
use Rattle.certificates.specs.Results.{IsGoodTile}
use Rattle.surface_snapshots.specs.Parts.{Parts}
use Rattle.tile_board.specs.declared.answers.Advance.{Advance}
use Rattle.tile_board.specs.declared.entry.Entry.{Entry}
use Rattle.tile_board.specs.declared.entry.Entry.TheVariants.{Revised, Kept, Published, Settled, Shown}
use Rattle.tile_board.specs.BoardView.{BoardView}
use Rattle.tile_board.specs.Calls.{IsAdvance, IsKeep, IsMadePublication, IsNew, IsPublication}
use Rattle.tile_board.specs.Boards.{IsHeld}
use Rattle.tile_board.specs.Histories.{IsLegal, mask_in, newest_of, present_mask}

-- a call: `keep` or `keep_solved`, `publish` or `publish_made`, or `advance` with its answer, where none was refused; or any other call, a refused one too
pub data BoardCall : Type 0 where
  Keeps : TileResult → BoardCall
  KeepsSolved : TileResult → BoardCall
  Publishes : ℕ → SeamResult → BoardCall
  PublishesMade : ℕ → Parts → BoardCall
  Advances : ℕ → Advance → BoardCall
  Other : BoardCall

-- what the contracts say of the board before and after it, and through a list of calls
abbrev pub IsCall : BoardCall → BoardView → BoardView → Type 0
IsCall (Keeps k) old new = IsKeep old new k
IsCall (KeepsSolved k) old new = IsKeep old new k
IsCall (Publishes a seams) old new = IsPublication old new a seams
IsCall (PublishesMade a surface) old new = IsMadePublication old new a surface
IsCall (Advances a answer) old new = IsAdvance old new a answer
IsCall Other old new = new ≡ old

abbrev pub LeadTo : List BoardCall → BoardView → BoardView → Type 0
LeadTo [] first last = last ≡ first
LeadTo (call ∷ calls) first last = (next : BoardView) × IsCall call first next × LeadTo calls next last

-- a revision is none, or no later than another
abbrev pub IsNoLater : Option ℕ → Option ℕ → Type 0
IsNoLater None s = ⊤
IsNoLater (Some r) None = ⊥
IsNoLater (Some r) (Some s) = r ≤ s

-- the entry names this revision as published
abbrev pub NamesRevision : Entry → Option ℕ → Type 0
NamesRevision (Revised a edit) r = ⊥
NamesRevision (Kept t stamp) r = ⊥
NamesRevision (Published a revision) r = r ≡ Some revision
NamesRevision (Settled a revision) r = r ≡ Some revision
NamesRevision (Shown a revision) r = r ≡ revision

-- what is shown is the newest published revision, and no earlier than what an entry before it named, whichever analysts these are of; so what is shown never falls
abbrev pub ShownAreNewest : List Entry → Type 0
ShownAreNewest H = (j b : ℕ) (s : Option ℕ) → slice_get H j ≡ Some (Shown b s) → (s ≡ newest_of (take j H)) × ((i : ℕ) (entry : Entry) (r : Option ℕ) → i ≤ j → slice_get H i ≡ Some entry → NamesRevision entry r → IsNoLater r s)

-- no revision is published twice, and a later publication is of a later revision
abbrev pub PublishedRise : List Entry → Type 0
PublishedRise H = (i j a b r s : ℕ) → i < j → slice_get H i ≡ Some (Published a r) → slice_get H j ≡ Some (Published b s) → r < s

-- whatever is called on a new board, by whichever analysts, its history is legal
abbrev pub EveryHistoryIsLegal : Type 0
EveryHistoryIsLegal = (session : Session) (first last : BoardView) (calls : List BoardCall) → IsNew session first → LeadTo calls first last → (last.session ≡ session) × IsLegal session last.entries

-- a legal history shows the newest, and publishes each revision once, later ones later
abbrev pub LegalHistoriesMoveOn : Type 0
LegalHistoriesMoveOn = (session : Session) (H : List Entry) → IsLegal session H → ShownAreNewest H × PublishedRise H

-- a held result is good under the mask at its stamp too; in its tile that mask has the same open pixels as the present one
abbrev pub HeldAreGoodAtStamp : Type 0
HeldAreGoodAtStamp = (session : Session) (H : List Entry) (tile : ℕ) (outcome : TileResult) → tile < tiles_of session.scene.tiling → IsHeld session H tile outcome → IsGoodTile session.scene (mask_in session H outcome.stamp) outcome × ((x y : ℕ) → x < session.scene.tiling.width → y < session.scene.tiling.height → tile_at session.scene.tiling x y ≡ tile → mask_in session H outcome.stamp x y ≡ present_mask session H x y)
