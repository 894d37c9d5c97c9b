-- For the crates above: passes only learn more.
use Rattle.std.proofs.Common.{[], sym, ◌∙◌, refl}
use Rattle.std.proofs.lemmas.List.{append-nil}
use Rattle.raster_model.specs.declared.session.Session.{Session}
use Rattle.tile_board.specs.BoardView.{BoardView}
use Rattle.board_desk.specs.Mine.{mine_of}
use Rattle.board_desk.specs.Passes.{Called, DeskView, IsLaterPass, IsPassOf, Merged, PassView}
use Rattle.board_desk.proofs.Histories.{prefix_self, prefix_trans}

pub later_self : (p : PassView) → IsLaterPass p p
later_self p = record { same = record { table = refl; session = refl; analyst = refl }; seen = prefix_self p.seen; mine = prefix_self p.mine }

pub later_trans : (p q r : PassView) → IsLaterPass p q → IsLaterPass q r → IsLaterPass p r
later_trans p q r a b = record {
  same = record { table = b.same.table ∙ a.same.table; session = b.same.session ∙ a.same.session; analyst = b.same.analyst ∙ a.same.analyst };
  seen = prefix_trans p.seen q.seen r.seen a.seen b.seen;
  mine = prefix_trans p.mine q.mine r.mine a.mine b.mine;
}

pub later_called : (s : Session) (p q : PassView) (answers : BoardView → BoardView → Type 0) → Called s p q answers → IsLaterPass p q
later_called s p q answers c = record {
  same = c.same;
  seen = prefix_trans p.seen c.before.entries q.seen c.begins (c.added, sym c.grown ∙ sym c.seen);
  mine = (mine_of p.analyst c.added, sym c.mine);
}

pub later_merged : (p w q : PassView) → Merged p w q → IsLaterPass p q
later_merged p w q m = record { same = m.same; seen = m.first; mine = ([], append-nil p.mine ∙ sym m.still.mine) }

pub still_of_desk : (d : DeskView) (p q : PassView) → IsPassOf d p → IsLaterPass p q → IsPassOf d q
still_of_desk d p q of later = record { table = later.same.table ∙ of.table; session = later.same.session ∙ of.session }
