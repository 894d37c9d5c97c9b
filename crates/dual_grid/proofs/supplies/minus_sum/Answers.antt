use Rattle.dual_grid.proofs.SupplyLemmas.{less_fits, less_is, less_none}
use Rattle.dual_grid.proofs.supplies.minus_sum.Goals as goal

pub loop-number-init : goal.loop-number-init
loop-number-init c = less_none c.args.numbers.now

pub overflow_sub-rest : goal.overflow_sub-rest
overflow_sub-rest c = less_fits c.args.numbers.now c.loop-number.number-index _ c.requires.few c.loop-number-test.true c.requires.small c.loop-number.invariant

pub loop-number-preserved : goal.loop-number-preserved
loop-number-preserved c = less_is c.args.numbers.now c.loop-number.number-index _ c.requires.few c.loop-number-test.true c.requires.small c.loop-number.invariant
