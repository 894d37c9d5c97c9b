use Rattle.raster_model.proofs.TileLeast.{certified_tiles_are_least}
use Rattle.raster_model.proofs.laws.certified_tile_is_least.Goals as goal

pub returns : goal.returns
returns c = certified_tiles_are_least
