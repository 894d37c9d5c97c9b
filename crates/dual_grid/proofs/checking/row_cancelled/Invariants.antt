use Rattle.std.proofs.Common.{ℕ, ◌<◌, ◌≤◌}
use Rattle.dual_grid.specs.Problems.{IsCancelled}
use Rattle.dual_grid.proofs.checking.row_cancelled.Given as goal

abbrev pub invariant-loop-x : goal.invariant-loop-x
invariant-loop-x l = (x : ℕ) → l.problem.window.x0 ≤ x → x < l.x → IsCancelled l.problem l.corrections x l.y
