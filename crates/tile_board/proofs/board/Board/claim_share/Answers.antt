use Rattle.std.proofs.Common.{◌≡◌, ◌≢◌, ℕ, ◌∙◌, ◌++◌, ◌∷◌, [], List, ap, ap₂, arith, length, map, refl, subst, sym}
use Rattle.std.specs.Prelude.{AllPairs}
use Rattle.std.proofs.lemmas.List.{length-map, take_all, take_more}
use Rattle.std.proofs.lemmas.List.Elements.{All-nil, All-push}
use Rattle.tile_board.specs.declared.answers.ClaimFault.TheVariants.{Memory}
use Rattle.tile_board.specs.declared.ticket.Ticket.{Ticket}
use Rattle.tile_board.specs.BoardView.{BoardView}
use Rattle.tile_board.specs.Calls.{IsClaim}
use Rattle.tile_board.proofs.ListLemmas.{err_is, map_push}
use Rattle.tile_board.proofs.ShareLemmas.{claim_lacks}
use Rattle.tile_board.proofs.board.Board.claim_share.Goals as goal

pub loop-tile-init : goal.loop-tile-init
loop-tile-init c = rw c.new-tickets.ensures.items (record { same = refl; each = All-nil (IsClaim c.args.self.now); tiles = refl })

pub claim_tile-requires : goal.claim_tile-requires
claim_tile-requires c = rw (c.loop-tile.invariant.same, c.deref-tile-items.ensures.value) (c.in_ok-tiles.ensures.tiles.lacking c.loop-tile.tile-index 0 (rw c.deref-tile-items.ensures.value at c.loop-tile-test.true))

pub loop-tile-preserved : goal.loop-tile-preserved
loop-tile-preserved c =
    let i = c.loop-tile.invariant in
    let n = c.loop-tile.tile-index in
    let tiles = c.deref-tile-items.result.now in
    let is : IsClaim c.args.self.now c.in_ok-ticket.ticket = subst (λ (b : BoardView). IsClaim b c.in_ok-ticket.ticket) i.same c.in_ok-ticket.ensures.claimed in
    let items = c.push_within.ensures.items ∙ ap (λ l. l ++ c.in_ok-ticket.ticket ∷ []) c.in_ok-reserve.ensures.items in
    let next = take_more tiles n 0 c.loop-tile-test.true in
    rw items (record {
      same = c.claim_tile.ensures.unchanged ∙ i.same;
      each = All-push (IsClaim c.args.self.now) c.loop-tile.tickets.items c.in_ok-ticket.ticket i.each is;
      tiles = map_push (λ (t : Ticket). t.tile) c.loop-tile.tickets.items c.in_ok-ticket.ticket ∙ ap₂ (λ (l : List ℕ) (t : ℕ). l ++ t ∷ []) i.tiles c.in_ok-ticket.ensures.tile ∙ sym next;
    })

pub returns-in_err-reserve-clause-refused : goal.returns-in_err-reserve-clause-refused
returns-in_err-reserve-clause-refused c =
    let is : IsClaim c.args.self.now c.in_ok-ticket.ticket = subst (λ (b : BoardView). IsClaim b c.in_ok-ticket.ticket) c.loop-tile.invariant.same c.in_ok-ticket.ensures.claimed in
    err_is c.from_residual-in_err-reserve.result Memory _ c.from_residual-in_err-reserve.ensures.1 (claim_lacks c.args.self.now c.in_ok-ticket.ticket is)

pub returns-clause-claimed : goal.returns-clause-claimed
returns-clause-claimed c =
    let i = c.loop-tile.invariant in
    let tiles = c.deref-tile-items.result.now in
    let all : map (λ (t : Ticket). t.tile) c.loop-tile.tickets.items ≡ c.in_ok-tiles.tiles.items = i.tiles ∙ take_all c.loop-tile.tile-index tiles (omega (arith, c.loop-tile-test.false)) ∙ c.deref-tile-items.ensures.value in
    record {
      count = sym (length-map c.loop-tile.tickets.items (λ (t : Ticket). t.tile)) ∙ ap (λ (l : List ℕ). length l) all ∙ c.in_ok-tiles.ensures.count;
      each = i.each;
      apart = subst (AllPairs (λ t u. t ≢ u)) (sym all) c.in_ok-tiles.ensures.tiles.apart;
    }
