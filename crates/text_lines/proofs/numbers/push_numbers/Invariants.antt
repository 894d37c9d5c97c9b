use Rattle.std.proofs.Common.{Bool, List, ℤ, length}
use Rattle.text_lines.specs.Numbers.{ArePushed}
use Rattle.text_lines.proofs.numbers.push_numbers.Given as goal

-- what is added of the rest is added of the text
abbrev pub invariant-loop-fields : goal.invariant-loop-fields
invariant-loop-fields l = (now : List ℤ) (all : Bool) → ArePushed l.rest l.numbers.items now all → ArePushed l.text l.fn.numbers.items now all

abbrev pub decreases-loop-fields : goal.decreases-loop-fields
decreases-loop-fields l = length l.rest
