use Rattle.std.proofs.Common.{below_more}
use Rattle.grid_writer.proofs.shown.ShownValues.first_unfit_in.Goals as goal

pub loop-x-preserved : goal.loop-x-preserved
loop-x-preserved c = below_more _ _ c.loop-x.invariant (c.fits.ensures.0 c.if-not-fits.false)
