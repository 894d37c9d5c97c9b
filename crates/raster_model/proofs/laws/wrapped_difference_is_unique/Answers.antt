use Rattle.raster_model.proofs.PhaseLemmas.{turns_exact, wrapped_has_no_slope, wrapped_is_it, wrapped_is_only}
use Rattle.raster_model.proofs.laws.wrapped_difference_is_unique.Goals as goal

pub returns-clause-found : goal.returns-clause-found
returns-clause-found c = wrapped_is_it

pub returns-clause-only : goal.returns-clause-only
returns-clause-only c = wrapped_is_only

pub returns-clause-turns : goal.returns-clause-turns
returns-clause-turns c = turns_exact

pub returns-clause-no_slope : goal.returns-clause-no_slope
returns-clause-no_slope c = wrapped_has_no_slope
