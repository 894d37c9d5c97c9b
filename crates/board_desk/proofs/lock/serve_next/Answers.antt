use Rattle.std.proofs.Common.{rules, arith}
use Rattle.board_desk.proofs.Steps.{adds_one, bell_apart, ticket_apart}
use Rattle.board_desk.proofs.lock.serve_next.Goals as goal

pub fetch_add-next-requires : goal.fetch_add-next-requires
fetch_add-next-requires c = (search rules, search rules, adds_one c.args.hall.now.key.value c.args.hall.now.table_id.slots c.args.seat.now.id 1 c.args.seat.now.me (ticket_apart 1 (omega arith)))

pub fetch_add-requires : goal.fetch_add-requires
fetch_add-requires c = (
  search rules,
  search rules,
  adds_one c.args.hall.now.key.value c.args.hall.now.table_id.slots c.fetch_add-next.new.seat.id c.bell_of-bell.result c.fetch_add-next.new.seat.me (bell_apart c.bell_of-bell.result c.bell_of-bell.ensures.0),
)
