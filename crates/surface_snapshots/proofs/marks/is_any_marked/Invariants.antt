use Rattle.std.proofs.Common.{◌≡◌, ◌<◌, ℕ, false, slice_index_or}
use Rattle.surface_snapshots.proofs.marks.is_any_marked.Given as goal

abbrev pub invariant-loop-i : goal.invariant-loop-i
invariant-loop-i l = l.found ≡ false → (k : ℕ) → k < l.i → slice_index_or l.marks k false ≡ false
