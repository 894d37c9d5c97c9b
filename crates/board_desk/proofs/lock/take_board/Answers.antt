use Rattle.std.proofs.Common.{rules, arith, ◌∙◌, ap}
use Rattle.board_desk.specs.Rules.{Place}
use Rattle.board_desk.proofs.Steps.{adds_one, takes_board, ticket_apart}
use Rattle.board_desk.proofs.Holding.{took_out, has_slot}
use Rattle.board_desk.proofs.lock.take_board.Goals as goal

pub fetch_add-ticket-requires : goal.fetch_add-ticket-requires
fetch_add-ticket-requires g c = (search rules, search rules, adds_one c.args.hall.now.key.value c.args.hall.now.table_id.slots c.args.seat.now.id 0 c.args.seat.now.me (ticket_apart 0 (omega arith)))

pub compare_exchange-requires : goal.compare_exchange-requires
compare_exchange-requires g c = (search rules, search rules, takes_board c.args.hall.now.key.value c.args.hall.now.table_id.slots c.loop.seat.id c.loop.seat.me)

pub exchange-requires : goal.exchange-requires
exchange-requires g c =
    let empty = ap (λ (m : Place). m.1) (c.loop.invariant.2 ∙ c.fetch_add-ticket.ensures.2.0) ∙ c.requires.empty in
    let out = took_out c.args.hall.now.table_id.slots c.loop.seat.me c.compare_exchange.new.seat.me c.compare_exchange.result c.if-compare_exchange-eq0.true c.compare_exchange.ensures.2 in
    (search rules, has_slot c.loop.seat.me c.compare_exchange.new.seat.me empty out)
