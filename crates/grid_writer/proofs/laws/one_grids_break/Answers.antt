use Rattle.grid_writer.proofs.ManyLemmas.{one_break, texts_do_not_break}
use Rattle.grid_writer.proofs.laws.one_grids_break.Goals as goal

pub returns-clause-one : goal.returns-clause-one
returns-clause-one c = one_break

pub returns-clause-none : goal.returns-clause-none
returns-clause-none c = texts_do_not_break
