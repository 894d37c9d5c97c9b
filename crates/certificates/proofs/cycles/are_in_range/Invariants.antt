use Rattle.std.proofs.Common.{◌≡◌, ◌<◌, ◌≤◌, ℕ, false}
use Rattle.std.specs.Prelude.{pos, slice_index_or, unsigned_abs}
use Rattle.certificates.proofs.cycles.are_in_range.Given as goal

abbrev pub invariant-loop-place : goal.invariant-loop-place
invariant-loop-place l = l.outside ≡ false → (v : ℕ) → v < l.place → unsigned_abs (slice_index_or l.cycles v (pos 0)) ≤ 8388608
