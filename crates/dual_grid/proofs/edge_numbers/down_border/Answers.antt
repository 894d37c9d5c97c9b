use Rattle.dual_grid.proofs.EdgeNumberLemmas.{at_row_start, at_row_end, row_at_none}
use Rattle.dual_grid.proofs.edge_numbers.down_border.Goals as goal

pub returns-then-column-across-clause-border : goal.returns-then-column-across-clause-border
returns-then-column-across-clause-border c = at_row_start c.args.window c.args.place c.requires.place

pub returns-then-column-across-clause-none : goal.returns-then-column-across-clause-none
returns-then-column-across-clause-none c = row_at_none c.args.window c.args.place c.requires.place c.if-column-across.true

pub returns-else-column-across-clause-border : goal.returns-else-column-across-clause-border
returns-else-column-across-clause-border c = at_row_end c.args.window c.args.place c.requires.place c.if-column-across.false
