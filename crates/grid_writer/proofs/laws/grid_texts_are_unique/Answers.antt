use Rattle.grid_writer.proofs.GridReads.{grids_unique}
use Rattle.grid_writer.proofs.laws.grid_texts_are_unique.Goals as goal

pub returns : goal.returns
returns c = grids_unique
