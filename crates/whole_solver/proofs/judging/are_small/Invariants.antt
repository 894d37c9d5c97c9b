use Rattle.std.proofs.Common.{◌≡◌, ◌<◌, ◌≤◌, ℕ, true, false}
use Rattle.std.specs.Prelude.{pos, slice_index_or, unsigned_abs}
use Rattle.raster_model.specs.declared.limits.TheConstants.{MAX_WHOLE_CYCLES}
use Rattle.whole_solver.proofs.judging.are_small.Given as goal

abbrev pub invariant-loop-place : goal.invariant-loop-place
invariant-loop-place l = record {
  small : l.outside ≡ false → (v : ℕ) → v < l.place → unsigned_abs (slice_index_or l.cycles v (pos 0)) ≤ MAX_WHOLE_CYCLES;
  great : l.outside ≡ true → (v : ℕ) × (MAX_WHOLE_CYCLES < unsigned_abs (slice_index_or l.cycles v (pos 0)));
}
