-- The present revision of a legal history is no earlier than any publication in what a pass had seen of it.
use Rattle.std.proofs.Common.{◌≡◌, ◌≤◌, ℕ, Option, Some, None, Result, Ok, List, arith, refl, subst, sym}
use mathlib.Core.List.{IsPrefix}
use Rattle.raster_model.specs.declared.session.Session.{Session}
use Rattle.tile_board.specs.declared.answers.Advance.{Advance}
use Rattle.tile_board.specs.declared.answers.Advance.TheVariants.{Settled}
use Rattle.tile_board.specs.declared.answers.AdvanceFault.{AdvanceFault}
use Rattle.tile_board.specs.declared.entry.Entry.{Entry}
use Rattle.tile_board.specs.BoardView.{BoardView}
use Rattle.tile_board.specs.Histories.{IsLegal, newest_of, now_of}
use Rattle.tile_board.specs.Runs.{IsNoLater}
use Rattle.tile_board.proofs.HistoryLemmas.{newest_within}
use Rattle.board_desk.specs.Answers.{IsCurrent, IsUpToDate}
use Rattle.board_desk.specs.Passes.{Called, PassView}
use Rattle.board_desk.proofs.Publications.{newest_later}

-- what a pass has seen after a call is the history that the call left
pub legal_called : (s : Session) (p q : PassView) (answers : BoardView → BoardView → Type 0) → Called s p q answers → IsLegal s q.seen
legal_called s p q answers c = subst (λ (x : Session × List Entry). IsLegal x.0 x.1) (λ i. (c.session_after i, sym c.seen i)) c.left.legal

under : (o n : Option ℕ) (r : ℕ) → IsNoLater o n → ((k : ℕ) → n ≡ Some k → k ≤ r) → IsNoLater o (Some r)
under None n r a b = tt
under (Some k) None r a b = absurd a
under (Some k) (Some m) r a b = omega (arith, a, b m refl)

pub current_since : (s : Session) (p q : PassView) (r : ℕ) → IsPrefix p.seen q.seen → IsLegal s q.seen → r ≡ now_of q.seen → IsCurrent p q r
current_since s p q r begins legal now = (
  under (newest_of p.seen) (newest_of q.seen) r (newest_later s p.seen q.seen begins legal) (λ k g. omega (arith, now, newest_within s q.seen legal k g)),
  now,
)

-- an answer that the revision is settled is about the present revision
pub settled_now : (p q : PassView) (answer : Result Advance AdvanceFault) (r : ℕ) → answer ≡ Ok (Settled r) → IsUpToDate p q answer → IsCurrent p q r
settled_now p q answer r told fresh = rw told at fresh
