use Rattle.raster_model.proofs.RegionNumbers.{region_numbers_are_unique}
use Rattle.raster_model.proofs.laws.region_numbers_are_unique.Goals as goal

pub returns : goal.returns
returns c = region_numbers_are_unique
