use Rattle.std.specs.List.{All}
use Rattle.board_desk.specs.Passes.{IsPassOf}
use Rattle.board_tests.proofs.turn_rows.hired.Given as goal

abbrev pub invariant-loop-worker : goal.invariant-loop-worker
invariant-loop-worker g l = IsPassOf l.fn.desk l.from × All (IsPassOf l.fn.desk) l.workers.items
