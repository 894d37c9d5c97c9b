use Rattle.std.proofs.Common.{◌∙◌, sym}
use Rattle.dual_grid.proofs.NodeLemmas.{above_inside, above_outside}
use Rattle.dual_grid.proofs.sides.node_above.Goals as goal

pub returns-then-window-y : goal.returns-then-window-y
returns-then-window-y c = c.node.ensures ∙ sym (above_inside c.args.window c.args.x c.args.y c.if-window-y.true)

pub returns-else-window-y : goal.returns-else-window-y
returns-else-window-y c = c.outside.ensures ∙ sym (above_outside c.args.window c.args.x c.args.y c.if-window-y.false)
