use Rattle.std.proofs.Common.{ℕ, ◌<◌, ◌≤◌}
use Rattle.raster_model.specs.Sums.{right_edge}
use Rattle.dual_grid.specs.Problems.{IsTightAt}
use Rattle.dual_grid.proofs.checking.right_row_tight.Given as goal

abbrev pub invariant-loop-x : goal.invariant-loop-x
invariant-loop-x l = (x : ℕ) → l.problem.window.x0 ≤ x → x < l.x → IsTightAt l.problem l.corrections l.faces (right_edge x l.y)
