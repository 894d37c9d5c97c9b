use Rattle.std.proofs.Common.{ℕ, ◌<◌, ◌≤◌}
use Rattle.std.specs.Prelude.{pos, slice_index_or, unsigned_abs}
use Rattle.dual_grid.proofs.reaching.are_low.Given as goal

abbrev pub invariant-loop-face : goal.invariant-loop-face
invariant-loop-face l = (i : ℕ) → i < l.face-index → unsigned_abs (slice_index_or l.faces i (pos 0)) ≤ 1073741824
