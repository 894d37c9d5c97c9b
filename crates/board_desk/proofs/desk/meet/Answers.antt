use Rattle.std.proofs.Common.{rules}
use Rattle.board_desk.proofs.Steps.{loads, settles}
use Rattle.board_desk.proofs.desk.meet.Goals as goal

pub join_seat-requires : goal.join_seat-requires
join_seat-requires c = (search rules, search rules, search rules, search rules, settles c.args.hall.now.key.value c.args.first.now.id c.other.inside.seat.id c.args.first.now.me.0 c.other.inside.seat.me.0 c.requires.holds)

pub load-requires : goal.load-requires
load-requires c = (search rules, search rules, loads c.args.hall.now.key.value c.args.hall.now.table_id.slots c.join_seat.new.seat.id c.join_seat.new.seat.me)
