use Rattle.std.proofs.Common.{subst, sym}
use Rattle.std.proofs.lemmas.List.Elements.{All-push}
use Rattle.tile_board.specs.declared.ticket.Ticket.{Ticket}
use Rattle.tile_board.specs.Calls.{WasGoodAt, mask_now}
use Rattle.tile_workers.specs.Scripts.{HasClaimed}
use Rattle.tile_workers.proofs.ClaimLemmas.{was_good}
use Rattle.tile_workers.proofs.solving.solve_each.Goals as goal

pub loop-ticket-preserved : goal.loop-ticket-preserved
loop-ticket-preserved g c =
    let s = c.args.desk.now.session in
    let ticket = c.ticket-item.result in
    let claimed : HasClaimed s c.args.pass.now ticket = subst (λ (t : Ticket). HasClaimed s c.args.pass.now t) (sym c.ticket-item.is) (c.requires.claimed c.loop-ticket.ticket-index _ c.loop-ticket-test.true) in
    let named = c.in_ok-solved.ensures.named in
    let good = rw (c.deref.ensures, claimed.claim.session, c.deref-in-loop-ticket.ensures.value) at c.in_ok-solved.ensures.good in
    let was = was_good s c.args.pass.now ticket c.in_ok-solved.solved claimed named.0 named.1 ticket.exists (good (mask_now claimed.board) claimed.claim.window.clear) in
    rw c.in_ok-push.ensures.items (All-push (WasGoodAt s c.args.pass.now.seen) c.loop-ticket.results.items c.in_ok-solved.solved c.loop-ticket.invariant was)
