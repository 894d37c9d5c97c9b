use Rattle.raster_model.proofs.Windows.{scenes_have_tiles}
use Rattle.raster_model.proofs.laws.every_pixel_has_a_tile.Goals as goal

pub returns : goal.returns
returns c = scenes_have_tiles
