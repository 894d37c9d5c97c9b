use Rattle.std.proofs.Common.{ℕ, ◌<◌, ◌≤◌}
use Rattle.std.specs.Prelude.{pos, slice_index_or, unsigned_abs}
use Rattle.dual_grid.proofs.checking.are_small.Given as goal

abbrev pub invariant-loop-correction : goal.invariant-loop-correction
invariant-loop-correction l = (i : ℕ) → i < l.correction-index → unsigned_abs (slice_index_or l.corrections i (pos 0)) ≤ l.most
