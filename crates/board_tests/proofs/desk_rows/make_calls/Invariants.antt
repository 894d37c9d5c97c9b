use Rattle.std.proofs.Common.{◌≢◌, None}
use Rattle.board_desk.specs.Passes.{IsPassOf}
use Rattle.board_tests.proofs.desk_rows.make_calls.Given as goal

abbrev pub invariant-loop-row : goal.invariant-loop-row
invariant-loop-row g l = IsPassOf l.fn.desk l.analyst × (l.analyst.analyst ≢ None) × IsPassOf l.fn.desk l.worker
