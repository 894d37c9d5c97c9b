use Rattle.std.proofs.Common.{◌≡◌}
use Rattle.std.specs.Prelude.{neg_ℤ}
use Rattle.dual_grid.specs.Building.{sum_of_first}
use Rattle.dual_grid.proofs.supplies.minus_sum.Given as goal

abbrev pub invariant-loop-number : goal.invariant-loop-number
invariant-loop-number l = l.rest ≡ neg_ℤ (sum_of_first l.numbers l.number-index)
