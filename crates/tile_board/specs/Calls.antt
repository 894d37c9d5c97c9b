-- What the calls of a board answer, and what they add.
use Rattle.std.specs.Prelude.{◌≡◌, ◌≢◌, ℕ, ◌/◌, ◌<◌, ◌≤◌, All, AllPairs, Bool, IsTrue, IsFalse, Some, None, List, [], ◌∷◌, ◌++◌, count_by, is_none, length, map, max, min, replicate, set, slice_get, if◌then◌else◌}
use Rattle.std.specs.Arc.{arc_value}
use mathlib.Core.List.{IsPrefix}
use Rattle.raster_model.specs.declared.script.Command.TheVariants.{Settle}
use Rattle.raster_model.specs.declared.script.Edit.{Edit}
use Rattle.raster_model.specs.declared.session.Session.{Session}
use Rattle.raster_model.specs.Masks.{IsMaskOf}
use Rattle.raster_model.specs.MaskView.{MaskView}
use Rattle.raster_model.specs.Tiles.{tiles_of, window_of}
use Rattle.certificates.specs.declared.results.SeamResult.{SeamResult}
use Rattle.certificates.specs.declared.results.TileResult.{TileResult}
use Rattle.certificates.specs.declared.verdicts.SeamVerdict.TheVariants.{Good as GoodSeams}
use Rattle.certificates.specs.declared.verdicts.TileVerdict.TheVariants.{Good as GoodTile}
use Rattle.certificates.specs.Results.{IsGoodTile}
use Rattle.certificates.specs.TileSets.{TileSetView}
use Rattle.certificates.specs.Verdicts.{IsTileVerdict}
use Rattle.mask_revisions.specs.Edits.{differ_in}
use Rattle.mask_revisions.specs.Revisions.{IsWindowMask}
use Rattle.seam_regions.specs.Regions.{AreRegionsOf}
use Rattle.surface_snapshots.specs.Parts.{AreGoodTiles, Parts, IsPublished, open_in}
use Rattle.surface_snapshots.specs.SeamsView.{seams_of}
use Rattle.surface_snapshots.specs.Verdicts.{IsPartsVerdict}
use Rattle.tile_board.specs.declared.answers.Advance.{Advance}
use Rattle.tile_board.specs.declared.answers.Advance.TheVariants as advances
use Rattle.tile_board.specs.declared.answers.AdvanceFault.{AdvanceFault}
use Rattle.tile_board.specs.declared.answers.AdvanceFault.TheVariants as advance_faults
use Rattle.tile_board.specs.declared.answers.ClaimFault.{ClaimFault}
use Rattle.tile_board.specs.declared.answers.ClaimFault.TheVariants as claim_faults
use Rattle.tile_board.specs.declared.answers.GatherFault.{GatherFault}
use Rattle.tile_board.specs.declared.answers.GatherFault.TheVariants as gather_faults
use Rattle.tile_board.specs.declared.answers.KeepFault.{KeepFault}
use Rattle.tile_board.specs.declared.answers.KeepFault.TheVariants as keep_faults
use Rattle.tile_board.specs.declared.answers.PublishFault.{PublishFault}
use Rattle.tile_board.specs.declared.answers.PublishFault.TheVariants as publish_faults
use Rattle.tile_board.specs.declared.entry.Entry.{Entry}
use Rattle.tile_board.specs.declared.entry.Entry.TheVariants.{Revised, Kept, Published, Settled, Shown}
use Rattle.tile_board.specs.declared.gathered.Gathered.{Gathered}
use Rattle.tile_board.specs.declared.gathered.PresentMask.{PresentMask}
use Rattle.tile_board.specs.declared.ticket.Ticket.{Ticket}
use Rattle.tile_board.specs.BoardView.{BoardView}
use Rattle.tile_board.specs.Histories.{AreAllKept, IsLeastLacking, IsStep, is_kept, names, newest_of, next_command, now_of, present_mask, published_of, stamp_in}

-- the present mask of a board
abbrev pub mask_now : BoardView → ℕ → ℕ → Bool
mask_now board = present_mask board.session board.entries

-- a board of the session with an empty history
pub record IsNew (s : Session) (board : BoardView) : Type 0 where
  pub session : board.session ≡ s
  pub entries : board.entries ≡ []
  pub kept : board.kept ≡ replicate (tiles_of s.scene.tiling) None
  pub surfaces : board.surfaces ≡ []

-- the entry may come next, and was added
pub record AddsEntry (old new : BoardView) (entry : Entry) : Type 0 where
  pub session : new.session ≡ old.session
  pub step : IsStep old.session old.entries entry
  pub entries : new.entries ≡ old.entries ++ entry ∷ []

-- ---- claim
-- a tile that is not kept, its stamp, and its window of the present mask
pub record IsClaim (board : BoardView) (ticket : Ticket) : Type 0 where
  pub session : arc_value ticket.session ≡ board.session
  pub lacking : IsFalse (is_kept board.session board.entries ticket.tile)
  pub stamp : ticket.stamp ≡ stamp_in board.session board.entries ticket.tile
  pub window : IsWindowMask (window_of board.session.scene.tiling ticket.tile) (mask_now board) ticket.unmasked.items

-- how many tiles have no kept result; and how many of so many a share is: one part of them if they are divided into so many, but no more than the most, and never none
abbrev pub lacking_count : BoardView → ℕ
lacking_count board = count_by is_none board.kept

abbrev pub share_size : ℕ → ℕ → ℕ → ℕ
share_size lacking parts most = max 1 (min most (lacking / max 1 parts))

-- as many claims as the share has tiles, no two of them of the same tile
pub record AreClaims (board : BoardView) (parts most : ℕ) (tickets : List Ticket) : Type 0 where
  pub count : length tickets ≡ share_size (lacking_count board) parts most
  pub each : All (IsClaim board) tickets
  pub apart : AllPairs (λ t u. t ≢ u) (map (λ ticket. ticket.tile) tickets)

-- every tile is kept; or one is not, and there is no memory for its mask
abbrev pub HasClaimFault : BoardView → ClaimFault → Type 0
HasClaimFault board claim_faults.NoJob = AreAllKept board.session board.entries
HasClaimFault board claim_faults.Memory = AreAllKept board.session board.entries → ⊥

-- ---- keep
-- the result is good, and kept
pub record IsKeep (old new : BoardView) (outcome : TileResult) : Type 0 where
  pub adds : AddsEntry old new (Kept outcome.tile outcome.stamp)
  pub good : IsGoodTile old.session.scene (mask_now old) outcome
  pub kept : new.kept ≡ set old.kept outcome.tile (Some outcome)
  pub surfaces : new.surfaces ≡ old.surfaces

-- the tile exists; the result has its stamp; its entry may come next
abbrev pub HasTile : BoardView → TileResult → Type 0
HasTile board outcome = outcome.tile < tiles_of board.session.scene.tiling

abbrev pub HasStamp : BoardView → TileResult → Type 0
HasStamp board outcome = HasTile board outcome × (outcome.stamp ≡ stamp_in board.session board.entries outcome.tile)

abbrev pub MayKeep : BoardView → TileResult → Type 0
MayKeep board outcome = HasStamp board outcome × IsFalse (is_kept board.session board.entries outcome.tile)

abbrev pub HasKeepFault : BoardView → TileResult → KeepFault → Type 0
HasKeepFault board outcome (keep_faults.Stranger t) = (t ≡ outcome.tile) × (tiles_of board.session.scene.tiling ≤ outcome.tile)
HasKeepFault board outcome (keep_faults.Stale r) = HasTile board outcome × (r ≡ stamp_in board.session board.entries outcome.tile) × (outcome.stamp ≢ r)
HasKeepFault board outcome keep_faults.Double = HasStamp board outcome × IsTrue (is_kept board.session board.entries outcome.tile)
HasKeepFault board outcome (keep_faults.Uncertified verdict) = MayKeep board outcome × (verdict ≢ GoodTile) × IsTileVerdict board.session.scene (mask_now board) outcome verdict
HasKeepFault board outcome keep_faults.Memory = MayKeep board outcome × IsGoodTile board.session.scene (mask_now board) outcome

-- a result has the stamp that its tile had at the end of a history, and is good under the mask there
pub record WasGoodAt (s : Session) (H : List Entry) (outcome : TileResult) : Type 0 where
  pub exists : outcome.tile < tiles_of s.scene.tiling
  pub stamp : outcome.stamp ≡ stamp_in s H outcome.tile
  pub good : IsGoodTile s.scene (present_mask s H) outcome

-- it was so at an earlier point of the history
pub record WasGood (board : BoardView) (outcome : TileResult) : Type 0 where
  pub earlier : List Entry
  pub begins : IsPrefix earlier board.entries
  pub was : WasGoodAt board.session earlier outcome

-- ---- gather
-- a mask is the present one
abbrev pub IsMaskNow : BoardView → MaskView → Type 0
IsMaskNow board mask = IsMaskOf mask board.session.scene.phase.width board.session.scene.phase.height (mask_now board)

-- a set has each tile's kept result
pub record AreKeptResults (board : BoardView) (tiles : TileSetView) : Type 0 where
  pub tiling : tiles.tiling ≡ board.session.scene.tiling
  pub results : map Some tiles.results ≡ board.kept

pub record IsGathering (board : BoardView) (gathered : Gathered) : Type 0 where
  pub session : arc_value gathered.session ≡ board.session
  pub ready : AreAllKept board.session board.entries
  pub revision : gathered.revision ≡ now_of board.entries
  pub mask : IsMaskNow board gathered.mask
  pub tiles : AreKeptResults board gathered.tiles

-- it is the present mask, of the present revision
pub record IsPresentMask (board : BoardView) (p : PresentMask) : Type 0 where
  pub session : arc_value p.session ≡ board.session
  pub revision : p.revision ≡ now_of board.entries
  pub mask : IsMaskNow board p.mask

abbrev pub HasGatherFault : BoardView → GatherFault → Type 0
HasGatherFault board (gather_faults.Unready t) = IsLeastLacking board.session board.entries t
HasGatherFault board gather_faults.Memory = AreAllKept board.session board.entries

-- ---- publish
-- what is published: the present mask, its regions, the kept results, and the offsets and flows
pub record ArePublishable (board : BoardView) (found : SeamResult) (p : Parts) : Type 0 where
  pub session : p.session ≡ board.session
  pub mask : IsMaskNow board p.mask
  pub regions : AreRegionsOf board.session.scene.tiling p.mask p.regions
  pub tiles : AreKeptResults board p.tiles
  pub seams : p.seams ≡ seams_of found

pub record IsPublication (old new : BoardView) (analyst : ℕ) (seams : SeamResult) : Type 0 where
  pub adds : AddsEntry old new (Published analyst seams.revision)
  pub kept : new.kept ≡ old.kept
  pub surface : Parts
  pub parts : ArePublishable old seams surface
  pub verdict : IsPartsVerdict surface GoodSeams
  pub certified : IsPublished surface
  pub surfaces : new.surfaces ≡ old.surfaces ++ surface ∷ []

-- a mask is the one at the end of a history, at which this revision was the present one
pub record WasMaskAt (s : Session) (H : List Entry) (mask : MaskView) (r : ℕ) : Type 0 where
  pub revision : now_of H ≡ r
  pub present : IsMaskOf mask s.scene.phase.width s.scene.phase.height (present_mask s H)

-- it was so at an earlier point of the history
pub record WasMask (board : BoardView) (mask : MaskView) (r : ℕ) : Type 0 where
  pub earlier : List Entry
  pub begins : IsPrefix earlier board.entries
  pub was : WasMaskAt board.session earlier mask r

-- the next command is to settle; also, a revision is the present one; also, it is not published; also, every tile is kept
abbrev pub MaySettle : BoardView → ℕ → Type 0
MaySettle board analyst = next_command board.session board.entries analyst ≡ Some Settle

abbrev pub IsPresentAt : BoardView → ℕ → ℕ → Type 0
IsPresentAt board analyst r = MaySettle board analyst × (r ≡ now_of board.entries)

abbrev pub IsFreshAt : BoardView → ℕ → ℕ → Type 0
IsFreshAt board analyst r = IsPresentAt board analyst r × (newest_of board.entries ≢ Some r)

abbrev pub MayPublishAt : BoardView → ℕ → ℕ → Type 0
MayPublishAt board analyst r = IsFreshAt board analyst r × AreAllKept board.session board.entries

-- the same of the revision that offsets are for
abbrev pub IsPresent : BoardView → ℕ → SeamResult → Type 0
IsPresent board analyst seams = IsPresentAt board analyst seams.revision

abbrev pub IsFresh : BoardView → ℕ → SeamResult → Type 0
IsFresh board analyst seams = IsFreshAt board analyst seams.revision

abbrev pub MayPublish : BoardView → ℕ → SeamResult → Type 0
MayPublish board analyst seams = MayPublishAt board analyst seams.revision

abbrev pub HasPublishFault : BoardView → ℕ → SeamResult → PublishFault → Type 0
HasPublishFault board analyst seams publish_faults.NotSettle = next_command board.session board.entries analyst ≢ Some Settle
HasPublishFault board analyst seams (publish_faults.Stale r) = MaySettle board analyst × (r ≡ now_of board.entries) × (seams.revision ≢ r)
HasPublishFault board analyst seams (publish_faults.Double r) = IsPresent board analyst seams × (r ≡ seams.revision) × (newest_of board.entries ≡ Some r)
HasPublishFault board analyst seams (publish_faults.Unready t) = IsFresh board analyst seams × IsLeastLacking board.session board.entries t
HasPublishFault board analyst seams (publish_faults.Uncertified verdict) = MayPublish board analyst seams × (verdict ≢ GoodSeams) × (p : Parts) × ArePublishable board seams p × IsPartsVerdict p verdict
HasPublishFault board analyst seams publish_faults.Memory = MayPublish board analyst seams

-- ---- publish_made
-- a certified surface of the session, made of the regions of its mask and of a good result of each tile
pub record IsMadeSurface (s : Session) (p : Parts) : Type 0 where
  pub session : p.session ≡ s
  pub regions : AreRegionsOf s.scene.tiling p.mask p.regions
  pub tiling : p.tiles.tiling ≡ s.scene.tiling
  pub tiles : AreGoodTiles s.scene (open_in p) p.tiles.results
  pub certified : IsPublished p
  pub verdict : IsPartsVerdict p GoodSeams

-- it is published: its mask is the present one, it and its entry were added, and nothing else changed
pub record IsMadePublication (old new : BoardView) (analyst : ℕ) (p : Parts) : Type 0 where
  pub adds : AddsEntry old new (Published analyst p.seams.revision)
  pub kept : new.kept ≡ old.kept
  pub mask : IsMaskNow old p.mask
  pub surfaces : new.surfaces ≡ old.surfaces ++ p ∷ []

abbrev pub HasMadeFault : BoardView → ℕ → ℕ → PublishFault → Type 0
HasMadeFault board analyst r publish_faults.NotSettle = next_command board.session board.entries analyst ≢ Some Settle
HasMadeFault board analyst r (publish_faults.Stale n) = MaySettle board analyst × (n ≡ now_of board.entries) × (r ≢ n)
HasMadeFault board analyst r (publish_faults.Double n) = IsPresentAt board analyst r × (n ≡ r) × (newest_of board.entries ≡ Some n)
HasMadeFault board analyst r (publish_faults.Unready t) = IsFreshAt board analyst r × IsLeastLacking board.session board.entries t
HasMadeFault board analyst r (publish_faults.Uncertified verdict) = ⊥
HasMadeFault board analyst r publish_faults.Memory = MayPublishAt board analyst r

-- ---- advance
-- the entry was added, and nothing else changed
pub record AddsAlone (old new : BoardView) (entry : Entry) : Type 0 where
  pub adds : AddsEntry old new entry
  pub kept : new.kept ≡ old.kept
  pub surfaces : new.surfaces ≡ old.surfaces

-- the edit made the next revision, and exactly the tiles in which a pixel changed lost their results
pub record IsRevision (old new : BoardView) (analyst : ℕ) (edit : Edit) : Type 0 where
  pub adds : AddsEntry old new (Revised analyst edit)
  pub count : length new.kept ≡ length old.kept
  pub kept : (t : ℕ) → t < tiles_of old.session.scene.tiling → slice_get new.kept t ≡ (if differ_in old.session.scene.tiling (mask_now old) (mask_now new) t then Some None else slice_get old.kept t)
  pub surfaces : new.surfaces ≡ old.surfaces

abbrev pub IsAdvance : BoardView → BoardView → ℕ → Advance → Type 0
IsAdvance old new analyst (advances.Revised r) = (r ≡ now_of new.entries) × (edit : Edit) × IsRevision old new analyst edit
IsAdvance old new analyst (advances.Settled r) = AddsAlone old new (Settled analyst r)
IsAdvance old new analyst (advances.Shown r) = AddsAlone old new (Shown analyst r)
IsAdvance old new analyst (advances.NotYet r) = MaySettle old analyst × (r ≡ now_of old.entries) × (newest_of old.entries ≢ Some r) × (new ≡ old)
IsAdvance old new analyst advances.Ended = (next_command old.session old.entries analyst ≡ None) × (new ≡ old)

-- an entry of the analyst that publishes nothing may come next, and there is no memory for it
abbrev pub HasAdvanceFault : BoardView → ℕ → AdvanceFault → Type 0
HasAdvanceFault board analyst advance_faults.Memory = (entry : Entry) × IsStep board.session board.entries entry × IsTrue (names analyst entry) × (published_of entry ≡ None)
