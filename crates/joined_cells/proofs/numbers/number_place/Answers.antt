use Rattle.joined_cells.proofs.NumberLemmas.{numbered_as_parent, numbered_anew}
use Rattle.joined_cells.proofs.numbers.number_place.Goals as goal

pub returns-then-parent-place : goal.returns-then-parent-place
returns-then-parent-place c joining is shown = numbered_as_parent joining c.args.place c.args.count c.args.labels.now is c.requires.within shown c.if-parent-place.true

pub returns : goal.returns
returns c joining is shown = numbered_anew joining c.args.place c.args.count c.args.labels.now is c.requires.within shown c.if-parent-place.false
