use Rattle.board_desk.specs.Passes.{IsPassOf}
use Rattle.board_tests.proofs.watch_rows.ask_until.Given as goal

abbrev pub invariant-loop-ask : goal.invariant-loop-ask
invariant-loop-ask g l = IsPassOf l.desk l.pass
