use Rattle.raster_model.proofs.SeamLeast.{certified_is_best}
use Rattle.raster_model.proofs.laws.certified_is_best.Goals as goal

pub returns : goal.returns
returns c = certified_is_best
