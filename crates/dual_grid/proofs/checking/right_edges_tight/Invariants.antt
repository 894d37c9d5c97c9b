use Rattle.std.proofs.Common.{ℕ, ◌<◌}
use Rattle.raster_model.specs.Sums.{right_edge}
use Rattle.wrapped_gradient.specs.Windows.{IsEdgeOf}
use Rattle.dual_grid.specs.Problems.{IsTightAt}
use Rattle.dual_grid.proofs.checking.right_edges_tight.Given as goal

abbrev pub invariant-loop-y : goal.invariant-loop-y
invariant-loop-y l = (x y : ℕ) → IsEdgeOf l.problem.window (right_edge x y) → y < l.y → IsTightAt l.problem l.corrections l.faces (right_edge x y)
