use Rattle.raster_model.proofs.BitLemmas.{ones_on, ones_off}
use Rattle.raster_model.proofs.bits.with_ones.Goals as goal

pub returns-then-set : goal.returns-then-set
returns-then-set c = rw c.if-set.true (ones_on c.args.word c.args.ones)

pub returns-else-set : goal.returns-else-set
returns-else-set c = rw c.if-set.false (ones_off c.args.word c.args.ones c.ranges.ones.fits)
