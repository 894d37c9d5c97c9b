use Rattle.std.proofs.Common.{◌∙◌, sym, arith}
use Rattle.dual_grid.proofs.NumberLemmas.{down_other_in, down_other_out}
use Rattle.dual_grid.proofs.edge_numbers.down_other.Goals as goal

pub returns-then-place-across-gt0 : goal.returns-then-place-across-gt0
returns-then-place-across-gt0 c = sym (down_other_in c.args.window c.args.place c.requires.place c.if-place-across-gt0.true)

pub returns-else-place-across-gt0 : goal.returns-else-place-across-gt0
returns-else-place-across-gt0 c = c.outside.ensures ∙ sym (down_other_out c.args.window c.args.place c.requires.place (omega (arith, c.if-place-across-gt0.false)))
