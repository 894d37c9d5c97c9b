use Rattle.std.proofs.Common.{ℕ, ◌<◌, get_or, pos}
use Rattle.text_lines.specs.Numbers.{FitsLong}
use Rattle.text_lines.proofs.fields.see_longs.Given as goal

abbrev pub invariant-loop-number : goal.invariant-loop-number
invariant-loop-number l = (k : ℕ) → k < l.number-index → FitsLong (get_or l.numbers k (pos 0))
