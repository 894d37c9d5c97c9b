use Rattle.raster_model.proofs.Whole.{certified_whole_is_least}
use Rattle.raster_model.proofs.laws.certified_whole_is_least.Goals as goal

pub returns : goal.returns
returns c = certified_whole_is_least
