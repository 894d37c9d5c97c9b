use Rattle.raster_model.proofs.BitLemmas.{more_ones, one_missing}
use Rattle.raster_model.proofs.bits.are_all_ones.Goals as goal

pub returns-then-differ : goal.returns-then-differ
returns-then-differ c = one_missing c.args.words.now c.loop-place.place c.args.first c.args.last c.ones_of-ones.result c.ones_of-ones.ensures (rw c.if-differ.true at c.differ.ensures)

pub loop-place-preserved : goal.loop-place-preserved
loop-place-preserved c = more_ones c.args.words.now c.loop-place.place c.args.first c.args.last c.ones_of-ones.result c.ones_of-ones.ensures c.loop-place.invariant (rw c.if-differ.false at c.differ.ensures)
