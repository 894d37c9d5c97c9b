use Rattle.raster_model.proofs.BitLemmas.{ones_in}
use Rattle.raster_model.proofs.bits.ones_between.Goals as goal

pub returns : goal.returns
returns c = ones_in 64 c.args.first c.args.last c.requires.order c.requires.inside
