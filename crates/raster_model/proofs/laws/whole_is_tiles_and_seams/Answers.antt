use Rattle.raster_model.proofs.Whole.{whole_is_tiles_and_seams}
use Rattle.raster_model.proofs.laws.whole_is_tiles_and_seams.Goals as goal

pub returns : goal.returns
returns c = whole_is_tiles_and_seams
