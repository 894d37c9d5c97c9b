use Rattle.std.proofs.Common.{◌≡◌}
use Rattle.std.specs.Prelude.{pos, ◌+ℤ◌}
use Rattle.dual_grid.specs.Building.{positive_sum}
use Rattle.dual_grid.proofs.reaching.sums_within.Given as goal

abbrev pub invariant-loop-excess : goal.invariant-loop-excess
invariant-loop-excess l = pos l.left +ℤ positive_sum l.excesses l.excess-index ≡ pos l.limit
