use Rattle.collector_core.specs.Finishing.{OnlyKept, tiles_left}
use Rattle.collector_core.proofs.settling.solve_all.Given as goal

abbrev pub invariant-loop : goal.invariant-loop
invariant-loop l = OnlyKept l.fn.board l.board

abbrev pub decreases-loop : goal.decreases-loop
decreases-loop l = tiles_left l.board
