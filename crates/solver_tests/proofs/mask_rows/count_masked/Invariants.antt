use Rattle.std.proofs.Common.{◌≤◌}
use Rattle.solver_tests.proofs.mask_rows.count_masked.Given as goal

abbrev pub invariant-loop-x : goal.invariant-loop-x
invariant-loop-x l = l.count ≤ l.x
