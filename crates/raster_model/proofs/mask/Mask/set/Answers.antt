use Rattle.raster_model.proofs.MaskLemmas.{set_one}
use Rattle.raster_model.proofs.mask.Mask.set.Goals as goal

pub returns : goal.returns
returns c = set_one _ _ _ _ _ c.set_span.ensures.set
