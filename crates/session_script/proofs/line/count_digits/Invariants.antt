use Rattle.std.proofs.Common.{◌≡◌, ℕ, ◌<◌, get_or, true}
use Rattle.pgm_planes.specs.Gaps.{is_digit}
use Rattle.session_script.proofs.line.count_digits.Given as goal

abbrev pub invariant-loop-count : goal.invariant-loop-count
invariant-loop-count l = (k : ℕ) → k < l.count → is_digit (get_or l.bytes k 0) ≡ true
