use Rattle.collector_core.specs.Finishing.{IsLater, commands_left}
use Rattle.collector_core.proofs.finishing.finish_script.Given as goal

abbrev pub invariant-loop : goal.invariant-loop
invariant-loop l = IsLater l.fn.board l.board

abbrev pub decreases-loop : goal.decreases-loop
decreases-loop l = commands_left l.analyst l.board
