use Rattle.std.proofs.Common.{◌≡◌, ◌+◌, List, ℕ, ℤ, subst}
use Rattle.dual_grid.specs.Nodes.{cells_of}
use Rattle.dual_grid.specs.Problems.{AreSmallNumbers}
use Rattle.dual_grid.proofs.CheckedAnswers.{checked_answer}
use Rattle.dual_grid.proofs.problem.Problem.is_answered_by.Goals as goal

-- the bound in the code's words, and the list in those of the corrections
bounded : (m n : ℕ) (zs us : List ℤ) → m ≡ n → zs ≡ us → AreSmallNumbers (m + 1) zs → AreSmallNumbers (n + 1) us
bounded m n zs us e f h = subst (λ (k : ℕ). AreSmallNumbers (k + 1) us) e (subst (λ (ws : List ℤ). AreSmallNumbers (m + 1) ws) f h)

pub returns-then-right_edges_tight : goal.returns-then-right_edges_tight
returns-then-right_edges_tight c =
    λ last.
    let cells = cells_of c.args.self.now.window in
    checked_answer c.args.self.now c.args.corrections.now c.args.faces.now (c.has_shape.ensures c.if-not-has_shape.false)
    (bounded c.outside-most.result cells c.deref.result.now _ c.outside-most.ensures c.deref.ensures.value (c.are_small.ensures c.if-not-are_small.false))
    (bounded c.outside-most.result cells c.deref-2.result.now _ c.outside-most.ensures c.deref-2.ensures.value (c.are_small-2.ensures c.if-not-are_small-2.false))
    (c.all_cancelled.ensures c.if-not-all_cancelled.false) (c.right_edges_tight.ensures c.if-right_edges_tight.true) (c.down_edges_tight.ensures last)
