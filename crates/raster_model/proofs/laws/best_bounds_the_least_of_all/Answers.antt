use Rattle.raster_model.proofs.Whole.{best_bounds_the_least_of_all}
use Rattle.raster_model.proofs.laws.best_bounds_the_least_of_all.Goals as goal

pub returns : goal.returns
returns c = best_bounds_the_least_of_all
