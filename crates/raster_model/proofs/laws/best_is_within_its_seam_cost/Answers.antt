use Rattle.raster_model.proofs.TotalCosts.{none_costs_less, within_seam_cost}
use Rattle.raster_model.proofs.laws.best_is_within_its_seam_cost.Goals as goal

pub returns-clause-none : goal.returns-clause-none
returns-clause-none c = none_costs_less

pub returns-clause-within : goal.returns-clause-within
returns-clause-within c = within_seam_cost
