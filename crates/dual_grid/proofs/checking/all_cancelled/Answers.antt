use Rattle.std.proofs.Common.{inl, inr}
use Rattle.dual_grid.proofs.checking.all_cancelled.Goals as goal
use Rattle.sums_and_lists.proofs.Orders.{below_or_last}

pub loop-y-preserved : goal.loop-y-preserved
loop-y-preserved c = λ x y i l. elim (below_or_last y c.loop-y.y l) [ inl m ↦ c.loop-y.invariant x y i m | inr m ↦ rw m (c.row_cancelled.ensures c.if-not-row_cancelled.false x i.0 i.1) ]
