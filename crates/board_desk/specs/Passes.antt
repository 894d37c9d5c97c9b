-- What contracts see of a desk and of a pass, and what a call tells of the one history.
use Rattle.std.specs.Prelude.{◌≡◌, ◌≢◌, ◌+◌, ◌⊎◌, ℕ, zero, suc, Bool, true, false, List, [], ◌∷◌, ◌++◌, Option, Some, None, All, length, slice_get}
use mathlib.Core.List.{IsPrefix}
use Rattle.atomic_table.specs.Seated.{TableId}
use Rattle.raster_model.specs.declared.script.Command.TheVariants.{Settle}
use Rattle.raster_model.specs.declared.session.Session.{Session}
use Rattle.tile_board.specs.declared.entry.Entry.{Entry}
use Rattle.tile_board.specs.BoardView.{BoardView}
use Rattle.tile_board.specs.Boards.{IsBoard}
use Rattle.tile_board.specs.Histories.{next_command, script_of}
use Rattle.board_desk.specs.Mine.{mine_of}

-- which desk it is, and the session that it was opened for
pub record DeskView : Type 0 where
  pub table : TableId
  pub session : Session

abbrev pub desk_of : TableId → Session → DeskView
desk_of table session = record { table = table; session = session }

-- the desk and the session of a pass, its analyst, what was seen of the history, and what was added through it in the analyst's name
pub record PassView : Type 0 where
  pub table : TableId
  pub session : Option Session
  pub analyst : Option ℕ
  pub seen : List Entry
  pub mine : List Entry
  -- the desk has answered that the analyst's script is at its end
  pub ended : Bool

pub record IsPassOf (desk : DeskView) (pass : PassView) : Type 0 where
  pub table : pass.table ≡ desk.table
  pub session : pass.session ≡ Some desk.session

-- q is the pass p at another time: it has the same desk and the same analyst
pub record IsSamePass (p q : PassView) : Type 0 where
  pub table : q.table ≡ p.table
  pub session : q.session ≡ p.session
  pub analyst : q.analyst ≡ p.analyst

-- q is the pass p later: what was seen and what was added only grew
pub record IsLaterPass (p q : PassView) : Type 0 where
  pub same : IsSamePass p q
  pub seen : IsPrefix p.seen q.seen
  pub mine : IsPrefix p.mine q.mine

-- nothing was added in the analyst's name, and the analyst's script has not ended meanwhile
pub record HasNotMoved (p q : PassView) : Type 0 where
  pub mine : q.mine ≡ p.mine
  pub ended : q.ended ≡ p.ended

-- ---- passes by themselves
-- by what was seen, the analyst's script is at its end; by what was added, its next command is to settle
abbrev pub HasNoCommandLeft : PassView → Type 0
HasNoCommandLeft pass = (s : Session) (a : ℕ) → pass.session ≡ Some s → pass.analyst ≡ Some a → next_command s pass.seen a ≡ None

pub record IsAtSettle (s : Session) (pass : PassView) : Type 0 where
  pub analyst : ℕ
  pub is : pass.analyst ≡ Some analyst
  pub next : slice_get (script_of s analyst) (length pass.mine) ≡ Some Settle

-- what was added in the analyst's name is what the history that was seen has of it; if an end was told, the script is at its end there
pub record IsSound (pass : PassView) : Type 0 where
  pub exact : pass.mine ≡ mine_of pass.analyst pass.seen
  pub at_end : pass.ended ≡ true → HasNoCommandLeft pass

-- the passes of the analysts from 1 on, in order, before the first entry
abbrev pub first_pass : DeskView → ℕ → PassView
first_pass desk analyst = record { table = desk.table; session = Some desk.session; analyst = Some analyst; seen = []; mine = []; ended = false }

abbrev pub first_passes : DeskView → ℕ → List PassView
first_passes desk zero = []
first_passes desk (suc analysts) = first_passes desk analysts ++ first_pass desk (analysts + 1) ∷ []

-- each pass has an analyst
abbrev pub HaveAnalysts : List PassView → Type 0
HaveAnalysts passes = All (λ pass. pass.analyst ≢ None) passes

-- ---- calls
-- A call was answered at one point of the history. The board at that point is `before`, and the call left the board `after`. The history there begins with what the pass had seen, and its entries of the analyst are exactly what was added through the pass.
pub record Called (s : Session) (p q : PassView) (answers : BoardView → BoardView → Type 0) : Type 0 where
  pub same : IsSamePass p q
  pub before : BoardView
  pub after : BoardView
  pub found : IsBoard before
  pub left : IsBoard after
  pub session : before.session ≡ s
  pub session_after : after.session ≡ s
  pub begins : IsPrefix p.seen before.entries
  pub exact : p.mine ≡ mine_of p.analyst before.entries
  pub added : List Entry
  pub grown : after.entries ≡ before.entries ++ added
  pub seen : q.seen ≡ after.entries
  pub mine : q.mine ≡ p.mine ++ mine_of p.analyst added
  pub answer : answers before after

-- this entry of the analyst was added
pub record AddsOwn (p q : PassView) (entry : ℕ → Entry) : Type 0 where
  pub analyst : ℕ
  pub is : p.analyst ≡ Some analyst
  pub mine : q.mine ≡ p.mine ++ entry analyst ∷ []

-- ---- handing over
-- a pass with no analyst that has seen as much
abbrev pub worker_pass : PassView → PassView
worker_pass pass = record { table = pass.table; session = pass.session; analyst = None; seen = pass.seen; mine = []; ended = false }

-- the pass p took w in, and is now q: what was seen is the longer of both histories, and the other begins it
pub record Merged (p w q : PassView) : Type 0 where
  pub same : IsSamePass p q
  pub still : HasNotMoved p q
  pub one : (q.seen ≡ p.seen) ⊎ (q.seen ≡ w.seen)
  pub first : IsPrefix p.seen q.seen
  pub second : IsPrefix w.seen q.seen

-- ---- closing
-- the history begins with what the pass had seen, and its entries of the analyst are exactly what was added through the pass
pub record Stands (log : List Entry) (pass : PassView) : Type 0 where
  pub begins : IsPrefix pass.seen log
  pub exact : pass.mine ≡ mine_of pass.analyst log
