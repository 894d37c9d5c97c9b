use Rattle.std.proofs.Common.{◌∙◌, sym}
use Rattle.dual_grid.proofs.NodeLemmas.{left_inside, left_outside}
use Rattle.dual_grid.proofs.sides.node_left.Goals as goal

pub returns-then-window-x : goal.returns-then-window-x
returns-then-window-x c = c.node.ensures ∙ sym (left_inside c.args.window c.args.x c.args.y c.if-window-x.true)

pub returns-else-window-x : goal.returns-else-window-x
returns-else-window-x c = c.outside.ensures ∙ sym (left_outside c.args.window c.args.x c.args.y c.if-window-x.false)
