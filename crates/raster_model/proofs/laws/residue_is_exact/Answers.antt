use Rattle.raster_model.proofs.Exact.{residue_is_exact, residue_is_small}
use Rattle.raster_model.proofs.laws.residue_is_exact.Goals as goal

pub returns-clause-exact : goal.returns-clause-exact
returns-clause-exact c = residue_is_exact

pub returns-clause-small : goal.returns-clause-small
returns-clause-small c = residue_is_small
