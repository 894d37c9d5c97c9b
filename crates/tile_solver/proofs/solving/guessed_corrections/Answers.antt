use Rattle.std.proofs.Common.{subst, List, ℤ}
use Rattle.dual_grid.specs.Problems.{IsAnsweredBy}
use Rattle.tile_solver.proofs.solving.guessed_corrections.Goals as goal

pub returns-then-is_answered_by : goal.returns-then-is_answered_by
returns-then-is_answered_by c =
    subst (λ (zs : List ℤ). IsAnsweredBy c.args.problem.now (record { right = c.in_ok-guess.guess.right; down = c.in_ok-guess.guess.down }) zs) c.deref.ensures.value (c.is_answered_by.ensures c.if-is_answered_by.true)
