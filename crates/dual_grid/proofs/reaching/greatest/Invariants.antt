use Rattle.std.proofs.Common.{ℕ, ◌<◌, ◌≤◌}
use Rattle.std.specs.Prelude.{pos, slice_index_or, unsigned_abs}
use Rattle.dual_grid.specs.Problems.{AreSmallNumbers}
use Rattle.dual_grid.proofs.reaching.greatest.Given as goal

abbrev pub invariant-loop-flow : goal.invariant-loop-flow
invariant-loop-flow l = record {
  small : (i : ℕ) → i < l.flow-index → unsigned_abs (slice_index_or l.flows i (pos 0)) ≤ l.most;
  least : (bound : ℕ) → AreSmallNumbers bound l.flows → l.most ≤ bound;
}
