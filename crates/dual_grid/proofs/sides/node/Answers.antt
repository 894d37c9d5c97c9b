use Rattle.std.proofs.Common.{◌∙◌, sym, arith}
use Rattle.dual_grid.proofs.NodeLemmas.{node_inside, node_outside}
use Rattle.dual_grid.proofs.sides.node.Goals.{else-x-window-via-then-x-window+else-y-window, else-x-window-via-else-x-window}
use Rattle.dual_grid.proofs.sides.node.Goals as goal

pub returns-then-y-window : goal.returns-then-y-window
returns-then-y-window c = sym (node_inside c.args.window c.args.x c.args.y (omega arith))

pub returns-else-x-window : goal.returns-else-x-window
returns-else-x-window c =
    c.outside.ensures ∙ sym (node_outside c.args.window c.args.x c.args.y (λ i. elim c.else-x-window.branch [
      | else-x-window-via-then-x-window+else-y-window w ↦ omega (arith, w.if-y-window.false, i)
      | else-x-window-via-else-x-window w ↦ omega (arith, w.if-x-window.false, i)
    ]))
