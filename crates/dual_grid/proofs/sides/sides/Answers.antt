use Rattle.std.proofs.Common.{◌∙◌, sym}
use Rattle.dual_grid.proofs.NodeLemmas.{first_down, first_right, other_down, other_right}
use Rattle.dual_grid.proofs.sides.sides.Goals as goal

pub returns-then-edge-clause-first : goal.returns-then-edge-clause-first
returns-then-edge-clause-first c = c.node-here.ensures ∙ sym (first_down c.args.window c.args.edge c.if-edge.true)

pub returns-then-edge-clause-other : goal.returns-then-edge-clause-other
returns-then-edge-clause-other c = c.node_left.ensures ∙ sym (other_down c.args.window c.args.edge c.if-edge.true)

pub returns-else-edge-clause-first : goal.returns-else-edge-clause-first
returns-else-edge-clause-first c = c.node_above.ensures ∙ sym (first_right c.args.window c.args.edge c.if-edge.false)

pub returns-else-edge-clause-other : goal.returns-else-edge-clause-other
returns-else-edge-clause-other c = c.node-here.ensures ∙ sym (other_right c.args.window c.args.edge c.if-edge.false)
