use Rattle.whole_solver.proofs.Places.{has_all}
use Rattle.whole_solver.proofs.judging.judged.Goals as goal

pub check_whole_side_by_side-requires-clause-known : goal.check_whole_side_by_side-requires-clause-known
check_whole_side_by_side-requires-clause-known g c κs within = λ x y l m o. has_all c.args.sheet.now.phase.now.width c.args.solved.width c.args.sheet.now.phase.now.height x y c.args.solved.cycles.items c.requires.width c.requires.count l m
