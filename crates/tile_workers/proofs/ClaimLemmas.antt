-- A worker's result is good at the point of the history at which its tile was claimed.
use Rattle.std.proofs.Common.{◌≡◌, ℕ, ◌<◌, ◌∙◌, sym, ap, subst, List}
use Rattle.std.specs.Prelude.{Result, Ok}
use Rattle.std.specs.Arc.{arc_value}
use Rattle.std.specs.Global.{Vec}
use Rattle.std.specs.List.{All}
use Rattle.raster_model.specs.declared.session.Session.{Session}
use Rattle.raster_model.specs.Tiles.{tiles_of}
use Rattle.certificates.specs.declared.results.TileResult.{TileResult}
use Rattle.certificates.specs.Results.{IsGoodTile}
use Rattle.tile_board.specs.declared.answers.ClaimFault.{ClaimFault}
use Rattle.tile_board.specs.declared.entry.Entry.{Entry}
use Rattle.tile_board.specs.declared.ticket.Ticket.{Ticket}
use Rattle.tile_board.specs.BoardView.{BoardView}
use Rattle.tile_board.specs.Calls.{WasGoodAt, mask_now}
use Rattle.tile_board.specs.Histories.{stamp_in}
use Rattle.board_desk.specs.Answers.{ShareAnswers}
use Rattle.board_desk.specs.Passes.{Called, PassView}
use Rattle.tile_workers.specs.Scripts.{HasClaimed}

-- a claim changes nothing, so the pass has then seen the history at which it was answered
pub have_claimed : (s : Session) (p q : PassView) (parts most : ℕ) (answer : Result (Vec Ticket) ClaimFault) → Called s p q (ShareAnswers parts most answer) → (tickets : Vec Ticket) → answer ≡ Ok tickets → All (HasClaimed s q) tickets.items
have_claimed s p q parts most answer c tickets is k d l =
    let told = subst (λ (a : Result (Vec Ticket) ClaimFault). ShareAnswers parts most a c.before c.after) is c.answer in record {
      board = c.before;
      session = c.session;
      entries = sym (c.seen ∙ ap (λ (b : BoardView). b.entries) told.1);
      claim = told.0.each k d l;
    }

pub was_good : (s : Session) (p : PassView) (ticket : Ticket) (k : TileResult) (claimed : HasClaimed s p ticket) → k.tile ≡ ticket.tile → k.stamp ≡ ticket.stamp → ticket.tile < tiles_of (arc_value ticket.session).scene.tiling
    → IsGoodTile claimed.board.session.scene (mask_now claimed.board) k → WasGoodAt s p.seen k
was_good s p ticket k claimed tile stamp below good =
    let b = claimed.board in
    let exists : k.tile < tiles_of b.session.scene.tiling = rw (tile, ← claimed.claim.session) below in
    let at : WasGoodAt b.session b.entries k = record { exists = exists; stamp = stamp ∙ (claimed.claim.stamp ∙ ap (stamp_in b.session b.entries) (sym tile)); good = good } in
    subst (λ (x : Session × List Entry). WasGoodAt x.0 x.1 k) (λ i. (claimed.session i, claimed.entries i)) at
