use Rattle.collector_core.proofs.HistoryLemmas.{only_trans}
use Rattle.collector_core.proofs.settling.solve_all.Goals as goal

pub returns-in_err-solve_one-clause-only : goal.returns-in_err-solve_one-clause-only
returns-in_err-solve_one-clause-only c = only_trans c.args.board.now c.loop.board c.solve_one.new.board c.loop.invariant c.solve_one.ensures.only

pub loop-preserved : goal.loop-preserved
loop-preserved c = only_trans c.args.board.now c.loop.board c.solve_one.new.board c.loop.invariant c.solve_one.ensures.only

pub returns-clause-only : goal.returns-clause-only
returns-clause-only c = only_trans c.args.board.now c.loop.board c.solve_one.new.board c.loop.invariant c.solve_one.ensures.only
