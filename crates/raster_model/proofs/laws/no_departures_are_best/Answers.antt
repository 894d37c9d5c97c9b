use Rattle.raster_model.proofs.Flat.{no_departures_are_best}
use Rattle.raster_model.proofs.laws.no_departures_are_best.Goals as goal

pub returns : goal.returns
returns c = no_departures_are_best
