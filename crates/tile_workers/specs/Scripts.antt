-- What passes are after the work of scripts.
use Rattle.std.specs.Prelude.{◌≡◌, ◌⊎◌, ◌<◌, ℕ, Bool, List, Option, Some, None, true, All, length, slice_index_or}
use Rattle.std.specs.Arc.{arc_value}
use Rattle.raster_model.specs.declared.session.Session.{Session}
use mathlib.Core.List.{IsPrefix}
use Rattle.raster_model.specs.Masks.{IsMaskOf}
use Rattle.raster_model.specs.Sums.{Field}
use Rattle.tile_board.specs.declared.entry.Entry.{Entry}
use Rattle.tile_board.specs.declared.entry.Entry.TheVariants.{Published, Settled}
use Rattle.tile_board.specs.declared.gathered.Gathered.{Gathered}
use Rattle.tile_board.specs.declared.ticket.Ticket.{Ticket}
use Rattle.tile_board.specs.BoardView.{BoardView}
use Rattle.surface_snapshots.specs.Parts.{Parts}
use Rattle.tile_board.specs.Calls.{IsClaim, IsMadeSurface, WasMaskAt}
use Rattle.tile_workers.specs.declared.early.EarlyRegions.{EarlyRegions}
use Rattle.tile_workers.specs.Found.{AreFoundOf}
use Rattle.board_desk.specs.Mine.{mine_of}
use Rattle.board_desk.specs.Passes.{AddsOwn, HasNotMoved, HasNoCommandLeft, IsLaterPass, PassView}

-- more was seen, and nothing was added in the analyst's name
pub record HasSeenMore (p q : PassView) : Type 0 where
  pub later : IsLaterPass p q
  pub still : HasNotMoved p q

-- the ticket was given at the end of what the pass has seen
pub record HasClaimed (s : Session) (pass : PassView) (ticket : Ticket) : Type 0 where
  pub board : BoardView
  pub session : board.session ≡ s
  pub entries : board.entries ≡ pass.seen
  pub claim : IsClaim board ticket

-- this was gathered at the end of what the pass has seen
pub record HasGathered (s : Session) (pass : PassView) (gathered : Gathered) : Type 0 where
  pub session : arc_value gathered.session ≡ s
  pub mask : WasMaskAt s pass.seen gathered.mask gathered.revision

-- a certified surface over what was gathered
pub record IsSurfaceOfGathered (gathered : Gathered) (parts : Parts) : Type 0 where
  pub made : IsMadeSurface (arc_value gathered.session) parts
  pub mask : parts.mask ≡ gathered.mask
  pub revision : parts.seams.revision ≡ gathered.revision

-- these are regions of the present mask at a point of what the pass has seen
pub record HadRegions (s : Session) (pass : PassView) (early : EarlyRegions) : Type 0 where
  pub earlier : List Entry
  pub begins : IsPrefix earlier pass.seen
  pub mask : WasMaskAt s earlier early.present.mask early.present.revision
  pub regions : AreFoundOf s.scene.tiling early.present.mask early.found

-- if they are of the gathered revision, they are regions of the session, and both masks are open at the same pixels
pub record AreOfOneMask (early : EarlyRegions) (gathered : Gathered) : Type 0 where
  pub regions : AreFoundOf (arc_value gathered.session).scene.tiling early.present.mask early.found
  pub clear : Field Bool
  pub before : IsMaskOf early.present.mask (arc_value gathered.session).scene.phase.width (arc_value gathered.session).scene.phase.height clear
  pub now : IsMaskOf gathered.mask (arc_value gathered.session).scene.phase.width (arc_value gathered.session).scene.phase.height clear

abbrev pub AgreeIfCurrent : EarlyRegions → Gathered → Type 0
AgreeIfCurrent early gathered = early.present.revision ≡ gathered.revision → AreOfOneMask early gathered

-- the analyst's settle command was done at this revision, by the one entry that was added in its name
abbrev pub HasSettled : PassView → PassView → ℕ → Type 0
HasSettled p q r = AddsOwn p q (λ a. Published a r) ⊎ AddsOwn p q (λ a. Settled a r)

-- what became of a publication: it was done in the analyst's name, or it was not to be done
abbrev pub HasPublished : PassView → PassView → Option ℕ → Type 0
HasPublished p q None = HasNotMoved p q
HasPublished p q (Some r) = AddsOwn p q (λ a. Published a r)

-- each pass is a later one
abbrev pub AreLater : List PassView → List PassView → Type 0
AreLater before after = (k : ℕ) (pass : PassView) → k < length before → IsLaterPass (slice_index_or before k pass) (slice_index_or after k pass)

-- the desk has answered that the analyst's script is at its end; so it is, and what was added in the analyst's name is what was seen of it
pub record HasScriptEnded (pass : PassView) : Type 0 where
  pub ended : pass.ended ≡ true
  pub exact : pass.mine ≡ mine_of pass.analyst pass.seen
  pub at_end : HasNoCommandLeft pass

abbrev pub AreEnded : List PassView → Type 0
AreEnded passes = All HasScriptEnded passes
