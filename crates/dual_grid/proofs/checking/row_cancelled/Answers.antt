use Rattle.std.proofs.Common.{ℕ}
use Rattle.dual_grid.specs.Problems.{IsCancelled}
use Rattle.dual_grid.proofs.CheckLemmas.{one_more}
use Rattle.dual_grid.proofs.checking.row_cancelled.Goals as goal

pub loop-x-preserved : goal.loop-x-preserved
loop-x-preserved c = one_more (λ (x : ℕ). IsCancelled c.args.problem.now c.args.corrections.now x c.args.y) c.args.problem.now.window.x0 c.loop-x.x c.loop-x.invariant (c.is_cancelled.ensures c.if-not-is_cancelled.false)
