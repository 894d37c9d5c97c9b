use Rattle.std.proofs.Common.{rules}
use Rattle.board_desk.proofs.Steps.{copies}
use Rattle.board_desk.proofs.desk.Desk.worker_pass.Goals as goal

pub split_seat-seat-requires : goal.split_seat-seat-requires
split_seat-seat-requires g c = (search rules, search rules, copies c.self.inside.table.shared.key.value c.from.inside.seat.id c.from.inside.seat.me.0)
