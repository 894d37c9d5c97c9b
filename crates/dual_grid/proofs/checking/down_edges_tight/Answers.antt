use Rattle.std.proofs.Common.{inl, inr, sym}
use Rattle.dual_grid.proofs.checking.down_edges_tight.Goals as goal
use Rattle.sums_and_lists.proofs.Orders.{below_or_last}

pub loop-y-preserved : goal.loop-y-preserved
loop-y-preserved c = λ x y i l. elim (below_or_last y c.loop-y.y l) [ inl m ↦ c.loop-y.invariant x y i m | inr m ↦ rw m (c.down_row_tight.ensures c.if-not-down_row_tight.false x (rw (sym m) i)) ]
