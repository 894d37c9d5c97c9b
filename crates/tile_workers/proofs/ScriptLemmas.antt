-- Passes through the work of a script.
use Rattle.std.proofs.Common.{◌≡◌, ◌∙◌, subst, refl}
use Rattle.raster_model.specs.declared.session.Session.{Session}
use Rattle.tile_board.specs.BoardView.{BoardView}
use Rattle.board_desk.specs.Passes.{Called, DeskView, HasNotMoved, IsLaterPass, IsPassOf, Merged, PassView}
use Rattle.board_desk.proofs.CallerLemmas.{later_called, later_merged, later_self, later_trans, still_of_desk}
use Rattle.tile_workers.specs.Scripts.{HasSeenMore}

pub later_at : (p p' q q' : PassView) → p ≡ p' → q ≡ q' → IsLaterPass p q → IsLaterPass p' q'
later_at p p' q q' a b later = subst (λ (r : PassView × PassView). IsLaterPass r.0 r.1) (λ i. (a i, b i)) later

pub more_self : (p : PassView) → HasSeenMore p p
more_self p = record { later = later_self p; still = record { mine = refl; ended = refl } }

pub more_trans : (p q r : PassView) → HasSeenMore p q → HasSeenMore q r → HasSeenMore p r
more_trans p q r a b = record { later = later_trans p q r a.later b.later; still = record { mine = b.still.mine ∙ a.still.mine; ended = b.still.ended ∙ a.still.ended } }

pub more_called : (s : Session) (p q : PassView) (answers : BoardView → BoardView → Type 0) → Called s p q answers → HasNotMoved p q → HasSeenMore p q
more_called s p q answers c still = record { later = later_called s p q answers c; still = still }

pub more_merged : (p w q : PassView) → Merged p w q → HasSeenMore p q
more_merged p w q m = record { later = later_merged p w q m; still = m.still }

pub of_desk : (d : DeskView) (p q : PassView) → IsPassOf d p → HasSeenMore p q → IsPassOf d q
of_desk d p q of more = still_of_desk d p q of more.later
