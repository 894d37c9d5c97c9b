use Rattle.std.proofs.Common.{ℕ, ◌<◌}
use Rattle.wrapped_gradient.specs.Windows.{IsCellOf}
use Rattle.dual_grid.specs.Problems.{IsCancelled}
use Rattle.dual_grid.proofs.checking.all_cancelled.Given as goal

abbrev pub invariant-loop-y : goal.invariant-loop-y
invariant-loop-y l = (x y : ℕ) → IsCellOf l.problem.window x y → y < l.y → IsCancelled l.problem l.corrections x y
