use Rattle.raster_model.proofs.Exact.{lifted_is_congruent, cycles_depart}
use Rattle.raster_model.proofs.laws.cycles_make_surfaces.Goals as goal

pub returns-clause-congruent : goal.returns-clause-congruent
returns-clause-congruent c = lifted_is_congruent

pub returns-clause-departs : goal.returns-clause-departs
returns-clause-departs c = cycles_depart
