use Rattle.std.proofs.Common.{◌≡◌, drop}
use Rattle.pgm_planes.specs.Gaps.{capped_number}
use Rattle.session_script.proofs.WordAgain.{counted}
use Rattle.session_script.proofs.line.number_of.Given as goal

abbrev pub invariant-loop-digit : goal.invariant-loop-digit
invariant-loop-digit l = counted l.number (drop l.digit-index l.digits) ≡ capped_number l.digits
