use Rattle.joined_cells.proofs.ForestLemmas.{hung}
use Rattle.joined_cells.proofs.forest.hang.Goals as goal

pub returns : goal.returns
returns c root forest own less = hung c.args.parents.now root c.args.earlier c.args.alone c.requires.within.0 c.requires.within.1 own less forest
