-- What the desk answers: what the board that stood there answers, and the board that this leaves.
use Rattle.std.specs.Prelude.{◌≡◌, ℕ, Bool, true, false, List, [], ◌∷◌, Option, Some, Result, Ok, Err, is_err, option_map, ⊤}
use Rattle.std.specs.Arc.{arc_value}
use Rattle.std.specs.Global.{Vec}
use Rattle.std.specs.List.{list_any}
use Rattle.std.specs.Option.{IfSome}
use Rattle.std.specs.Result.{IfOk, MatchResult}
use Rattle.raster_model.specs.declared.script.Edit.{Edit}
use Rattle.raster_model.specs.declared.session.Session.{Session}
use Rattle.certificates.specs.declared.results.SeamResult.{SeamResult}
use Rattle.certificates.specs.declared.results.TileResult.{TileResult}
use Rattle.surface_snapshots.specs.declared.snapshot.Snapshot.{Snapshot}
use Rattle.surface_snapshots.specs.Parts.{Parts}
use Rattle.surface_snapshots.specs.Views.{parts_of}
use Rattle.tile_board.specs.declared.answers.Advance.{Advance}
use Rattle.tile_board.specs.declared.answers.Advance.TheVariants as advances
use Rattle.tile_board.specs.declared.answers.AdvanceFault.{AdvanceFault}
use Rattle.tile_board.specs.declared.answers.ClaimFault.{ClaimFault}
use Rattle.tile_board.specs.declared.answers.GatherFault.{GatherFault}
use Rattle.tile_board.specs.declared.answers.KeepFault.{KeepFault}
use Rattle.tile_board.specs.declared.answers.KeepFault.TheVariants as keep_faults
use Rattle.tile_board.specs.declared.answers.PublishFault.{PublishFault}
use Rattle.tile_board.specs.declared.entry.Entry.TheVariants.{Published, Revised, Settled, Shown}
use Rattle.tile_board.specs.declared.entry.Entry.{Entry}
use Rattle.tile_board.specs.declared.gathered.Gathered.{Gathered}
use Rattle.tile_board.specs.declared.gathered.PresentMask.{PresentMask}
use Rattle.tile_board.specs.declared.ticket.Ticket.{Ticket}
use Rattle.tile_board.specs.BoardView.{BoardView}
use Rattle.tile_board.specs.Calls.{AreClaims, HasAdvanceFault, HasClaimFault, HasGatherFault, HasKeepFault, HasMadeFault, HasPublishFault, IsAdvance, IsClaim, IsGathering, IsKeep, IsMadePublication, IsPresentMask, IsPublication, WasMaskAt}
use Rattle.tile_board.specs.Histories.{newest_of, now_of}
use Rattle.tile_board.specs.Runs.{IsNoLater}
use Rattle.tile_board.specs.Surfaces.{last_surface}
use Rattle.board_desk.specs.Passes.{PassView, AddsOwn, IsAtSettle}

abbrev pub ClaimAnswers : Result Ticket ClaimFault → BoardView → BoardView → Type 0
ClaimAnswers answer old new = MatchResult answer (IsClaim old) (HasClaimFault old) × (new ≡ old)

abbrev pub ShareAnswers : ℕ → ℕ → Result (Vec Ticket) ClaimFault → BoardView → BoardView → Type 0
ShareAnswers parts most answer old new = MatchResult answer (λ tickets. AreClaims old parts most tickets.items) (HasClaimFault old) × (new ≡ old)

abbrev pub KeepAnswers : {U : Type 0} → TileResult → Result U KeepFault → BoardView → BoardView → Type 0
KeepAnswers solved answer old new = MatchResult answer (λ _. IsKeep old new solved) (λ fault. HasKeepFault old solved fault × (new ≡ old))

-- memory was lacking for the result
abbrev pub is_starved : {U : Type 0} → Result U KeepFault → Bool
is_starved (Ok done) = false
is_starved (Err (keep_faults.Stranger t)) = false
is_starved (Err (keep_faults.Stale r)) = false
is_starved (Err keep_faults.Double) = false
is_starved (Err (keep_faults.Uncertified verdict)) = false
is_starved (Err keep_faults.Memory) = true

-- results are handed in one after another, each to the board that the one before it left; these are their answers, in order
abbrev pub KeepsEach : {U : Type 0} → List TileResult → List (Result U KeepFault) → BoardView → BoardView → Type 0
KeepsEach [] [] old new = new ≡ old
KeepsEach [] (answer ∷ answers) old new = ⊥
KeepsEach (solved ∷ rest) [] old new = ⊥
KeepsEach (solved ∷ rest) (answer ∷ answers) old new = (next : BoardView) × KeepAnswers solved answer old next × KeepsEach rest answers next new

-- all of them are handed in, and it fails exactly if memory was lacking for one
pub record KeepAllAnswers {U E : Type 0} (solved : List TileResult) (answer : Result U E) (old new : BoardView) : Type 0 where
  pub answers : List (Result U KeepFault)
  pub each : KeepsEach solved answers old new
  pub starved : is_err answer ≡ list_any is_starved answers

abbrev pub GatherAnswers : Result Gathered GatherFault → BoardView → BoardView → Type 0
GatherAnswers answer old new = MatchResult answer (IsGathering old) (HasGatherFault old) × (new ≡ old)

abbrev pub MaskAnswers : {E : Type 0} → Result PresentMask E → BoardView → BoardView → Type 0
MaskAnswers answer old new = IfOk answer (IsPresentMask old) × (new ≡ old)

-- it is the mask at the end of a history
pub record IsMaskThere (s : Session) (H : List Entry) (p : PresentMask) : Type 0 where
  pub session : arc_value p.session ≡ s
  pub mask : WasMaskAt s H p.mask p.revision

abbrev pub NewestAnswers : {E : Type 0} → Result (Option Snapshot) E → BoardView → BoardView → Type 0
NewestAnswers answer old new = IfOk answer (λ newest. option_map parts_of newest ≡ last_surface old) × (new ≡ old)

abbrev pub PublishAnswers : {U : Type 0} → Option ℕ → SeamResult → Result U PublishFault → BoardView → BoardView → Type 0
PublishAnswers analyst seams answer old new = IfSome analyst (λ a. MatchResult answer (λ _. IsPublication old new a seams) (λ fault. HasPublishFault old a seams fault × (new ≡ old)))

abbrev pub MadeAnswers : {U : Type 0} → Option ℕ → Parts → Result U PublishFault → BoardView → BoardView → Type 0
MadeAnswers analyst surface answer old new = IfSome analyst (λ a. MatchResult answer (λ _. IsMadePublication old new a surface) (λ fault. HasMadeFault old a surface.seams.revision fault × (new ≡ old)))

abbrev pub AdvanceAnswers : Option ℕ → Result Advance AdvanceFault → BoardView → BoardView → Type 0
AdvanceAnswers analyst answer old new = IfSome analyst (λ a. MatchResult answer (IsAdvance old new a) (λ fault. HasAdvanceFault old a fault × (new ≡ old)))

-- ---- what an answer tells of the pass
-- what was published in the analyst's name
abbrev pub OwnPublish : {U : Type 0} → PassView → PassView → ℕ → Result U PublishFault → Type 0
OwnPublish p q revision (Ok done) = AddsOwn p q (λ a. Published a revision)
OwnPublish p q revision (Err fault) = q.mine ≡ p.mine

-- what was done in the analyst's name
abbrev pub OwnAdvance : PassView → PassView → Result Advance AdvanceFault → Type 0
OwnAdvance p q (Ok (advances.Revised r)) = (edit : Edit) × AddsOwn p q (λ a. Revised a edit)
OwnAdvance p q (Ok (advances.Settled r)) = AddsOwn p q (λ a. Settled a r)
OwnAdvance p q (Ok (advances.Shown r)) = AddsOwn p q (λ a. Shown a r)
OwnAdvance p q (Ok (advances.NotYet r)) = q.mine ≡ p.mine
OwnAdvance p q (Ok advances.Ended) = q.mine ≡ p.mine
OwnAdvance p q (Err fault) = q.mine ≡ p.mine

-- the answer says that the script is at its end
abbrev pub tells_end : Result Advance AdvanceFault → Bool
tells_end (Ok advances.Ended) = true
tells_end (Ok (advances.Revised revision)) = false
tells_end (Ok (advances.Settled revision)) = false
tells_end (Ok (advances.Shown revision)) = false
tells_end (Ok (advances.NotYet revision)) = false
tells_end (Err fault) = false

-- a revision is the present one, which counts every edit of the history that was seen, the analyst's own among them; it is no earlier than any publication that the pass had seen
abbrev pub IsCurrent : PassView → PassView → ℕ → Type 0
IsCurrent p q revision = IsNoLater (newest_of p.seen) (Some revision) × (revision ≡ now_of q.seen)

-- what is shown or settled is no earlier than any publication that the pass had seen; a settled revision is the present one
abbrev pub IsUpToDate : PassView → PassView → Result Advance AdvanceFault → Type 0
IsUpToDate p q (Ok (advances.Revised r)) = ⊤
IsUpToDate p q (Ok (advances.Settled r)) = IsCurrent p q r
IsUpToDate p q (Ok (advances.Shown r)) = IsNoLater (newest_of p.seen) r
IsUpToDate p q (Ok (advances.NotYet r)) = ⊤
IsUpToDate p q (Ok advances.Ended) = ⊤
IsUpToDate p q (Err fault) = ⊤

-- if the answer is that the surface is not there yet, the next command is to settle
abbrev pub AwaitsSurface : Session → PassView → Result Advance AdvanceFault → Type 0
AwaitsSurface s pass (Ok (advances.Revised r)) = ⊤
AwaitsSurface s pass (Ok (advances.Settled r)) = ⊤
AwaitsSurface s pass (Ok (advances.Shown r)) = ⊤
AwaitsSurface s pass (Ok (advances.NotYet r)) = IsAtSettle s pass
AwaitsSurface s pass (Ok advances.Ended) = ⊤
AwaitsSurface s pass (Err fault) = ⊤

-- what may be answered if the next command is to settle
abbrev pub IsOfSettle : Result Advance AdvanceFault → Type 0
IsOfSettle (Ok (advances.Revised r)) = ⊥
IsOfSettle (Ok (advances.Settled r)) = ⊤
IsOfSettle (Ok (advances.Shown r)) = ⊥
IsOfSettle (Ok (advances.NotYet r)) = ⊤
IsOfSettle (Ok advances.Ended) = ⊥
IsOfSettle (Err fault) = ⊤
