use Rattle.std.proofs.Common.{ℕ, ◌<◌, ◌≤◌}
use Rattle.raster_model.specs.Sums.{down_edge}
use Rattle.dual_grid.specs.Problems.{IsTightAt}
use Rattle.dual_grid.proofs.checking.down_row_tight.Given as goal

abbrev pub invariant-loop-x : goal.invariant-loop-x
invariant-loop-x l = (x : ℕ) → l.problem.window.x0 ≤ x → x < l.x → IsTightAt l.problem l.corrections l.faces (down_edge x l.y)
