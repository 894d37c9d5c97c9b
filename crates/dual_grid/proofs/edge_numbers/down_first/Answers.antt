use Rattle.std.proofs.Common.{◌∙◌, sym}
use Rattle.dual_grid.proofs.NumberLemmas.{down_first_in, down_first_out}
use Rattle.dual_grid.proofs.edge_numbers.down_first.Goals as goal

pub returns-then-place-across : goal.returns-then-place-across
returns-then-place-across c = sym (down_first_in c.args.window c.args.place c.requires.place c.if-place-across.true)

pub returns-else-place-across : goal.returns-else-place-across
returns-else-place-across c = c.outside.ensures ∙ sym (down_first_out c.args.window c.args.place c.requires.place c.if-place-across.false)
