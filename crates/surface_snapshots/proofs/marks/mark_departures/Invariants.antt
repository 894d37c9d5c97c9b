use Rattle.std.proofs.Common.{◌≡◌, ◌<◌, ℕ, false, length, pos, slice_index, slice_index_or}
use Rattle.surface_snapshots.specs.Strips.{IsStillEdge}
use Rattle.surface_snapshots.proofs.marks.mark_departures.Given as goal

abbrev pub invariant-loop-i : goal.invariant-loop-i
invariant-loop-i l = record {
  same : length l.marks ≡ length l.fn.marks;
  kept : (k : ℕ) → slice_index_or l.marks k false ≡ false → slice_index_or l.fn.marks k false ≡ false;
  still : (k : ℕ) → k < l.i → slice_index_or l.marks k false ≡ false → IsStillEdge l.slope (slice_index_or l.from k (pos 0)) (slice_index_or l.to k (pos 0)) (slice_index l.first k) (slice_index l.other k);
}
