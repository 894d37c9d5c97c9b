use Rattle.std.proofs.Common.{rules}
use Rattle.board_desk.proofs.Steps.{enrolls}
use Rattle.board_desk.proofs.desk.enroll.Goals as goal

pub split_seat-seat-requires : goal.split_seat-seat-requires
split_seat-seat-requires c = (search rules, search rules, enrolls c.args.hall.now.key.value c.args.giver.now.id c.args.giver.now.me.0 c.requires.gives.0)
