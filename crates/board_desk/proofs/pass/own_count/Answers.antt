use Rattle.board_desk.proofs.Ending.{count_own}
use Rattle.board_desk.proofs.pass.own_count.Goals as goal

pub returns-in-Some : goal.returns-in-Some
returns-in-Some c = count_own c.args.analyst c.in-Some.number c.done.result c.args.board.now.entries c.in-Some.is c.done.ensures
