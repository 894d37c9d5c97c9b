use Rattle.raster_model.proofs.Exact.{departure_is_exact}
use Rattle.raster_model.proofs.laws.departure_is_exact.Goals as goal

pub returns : goal.returns
returns c = departure_is_exact
