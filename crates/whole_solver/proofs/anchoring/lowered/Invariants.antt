use Rattle.std.proofs.Common.{◌≡◌, ◌<◌, ◌≤◌, ℕ}
use Rattle.std.specs.Prelude.{pos, ◌-ℤ◌, length, slice_index_or}
use Rattle.whole_solver.proofs.anchoring.lowered.Given as goal

abbrev pub invariant-loop-place : goal.invariant-loop-place
invariant-loop-place l = record {
  count : length l.cycles.items ≡ length l.fn.cycles.items;
  done : (k : ℕ) → k < l.place → slice_index_or l.cycles.items k (pos 0) ≡ slice_index_or l.fn.cycles.items k (pos 0) -ℤ l.by;
  rest : (k : ℕ) → l.place ≤ k → slice_index_or l.cycles.items k (pos 0) ≡ slice_index_or l.fn.cycles.items k (pos 0);
}
