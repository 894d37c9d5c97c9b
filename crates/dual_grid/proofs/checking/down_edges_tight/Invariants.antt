use Rattle.std.proofs.Common.{ℕ, ◌<◌}
use Rattle.raster_model.specs.Sums.{down_edge}
use Rattle.wrapped_gradient.specs.Windows.{IsEdgeOf}
use Rattle.dual_grid.specs.Problems.{IsTightAt}
use Rattle.dual_grid.proofs.checking.down_edges_tight.Given as goal

abbrev pub invariant-loop-y : goal.invariant-loop-y
invariant-loop-y l = (x y : ℕ) → IsEdgeOf l.problem.window (down_edge x y) → y < l.y → IsTightAt l.problem l.corrections l.faces (down_edge x y)
