use Rattle.board_desk.specs.Passes.{IsPassOf}
use Rattle.board_tests.proofs.turn_rows.ask_often.Given as goal

abbrev pub invariant-loop-ask : goal.invariant-loop-ask
invariant-loop-ask g l = IsPassOf l.fn.desk l.pass
