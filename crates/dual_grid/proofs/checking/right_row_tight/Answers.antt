use Rattle.std.proofs.Common.{ℕ}
use Rattle.raster_model.specs.Sums.{right_edge}
use Rattle.dual_grid.specs.Problems.{IsTightAt}
use Rattle.dual_grid.proofs.CheckLemmas.{one_more}
use Rattle.dual_grid.proofs.checking.right_row_tight.Goals as goal

pub loop-x-preserved : goal.loop-x-preserved
loop-x-preserved c = one_more (λ (x : ℕ). IsTightAt c.args.problem.now c.args.corrections.now c.args.faces.now (right_edge x c.args.y)) c.args.problem.now.window.x0 c.loop-x.x c.loop-x.invariant (c.is_tight_at.ensures c.if-not-is_tight_at.false)
