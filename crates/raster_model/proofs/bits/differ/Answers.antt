use Rattle.raster_model.proofs.BitLemmas.{words_differ}
use Rattle.raster_model.proofs.bits.differ.Goals as goal

pub returns : goal.returns
returns c = words_differ c.args.a c.args.b c.ranges.a.fits c.ranges.b.fits
