use Rattle.insar_top.proofs.BoundLemmas.{first_mask_is_that_of_0, reports_bound_the_least}
use Rattle.insar_top.proofs.laws.reports_bound_the_least.Goals as goal

pub returns-clause-bound : goal.returns-clause-bound
returns-clause-bound c = reports_bound_the_least c.tiled_session_is_whole.ensures

pub returns-clause-first : goal.returns-clause-first
returns-clause-first c = first_mask_is_that_of_0
