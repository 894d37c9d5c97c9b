use Rattle.raster_model.proofs.Exact.{faces_meet_departures}
use Rattle.raster_model.proofs.laws.faces_meet_departures.Goals as goal

pub returns : goal.returns
returns c = faces_meet_departures
