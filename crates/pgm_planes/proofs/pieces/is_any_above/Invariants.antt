use Rattle.std.proofs.Common.{◌≡◌, ◌≤◌, false, take}
use Rattle.std.specs.Prelude.{All}
use Rattle.pgm_planes.proofs.pieces.is_any_above.Given as goal

abbrev pub invariant-loop-sample : goal.invariant-loop-sample
invariant-loop-sample l = l.found ≡ false → All (λ v. v ≤ l.maxval) (take l.sample-index l.samples)
