use Rattle.loop_closure.proofs.LoopLemmas.{cycles_close, only_cycles_close}
use Rattle.loop_closure.proofs.laws.cycles_close_the_loop.Goals as goal

pub returns-clause-closes : goal.returns-clause-closes
returns-clause-closes c = cycles_close

pub returns-clause-only : goal.returns-clause-only
returns-clause-only c = only_cycles_close
