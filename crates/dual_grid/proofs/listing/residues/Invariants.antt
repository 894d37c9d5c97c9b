use Rattle.std.proofs.Common.{◌+◌, ◌-◌, ◌*◌}
use Rattle.wrapped_gradient.specs.Gradients.{residue_at}
use Rattle.wrapped_gradient.specs.Rows.{AreInRows}
use Rattle.dual_grid.proofs.listing.residues.Given as goal

abbrev pub invariant-loop-x : goal.invariant-loop-x
invariant-loop-x l = AreInRows (residue_at l.gradients) l.gradients.window.x0 l.gradients.window.y0 (l.gradients.window.x1 - l.gradients.window.x0) ((l.y - l.gradients.window.y0) * (l.gradients.window.x1 - l.gradients.window.x0) + (l.x - l.gradients.window.x0)) l.list.items

abbrev pub invariant-loop-y : goal.invariant-loop-y
invariant-loop-y l = AreInRows (residue_at l.gradients) l.gradients.window.x0 l.gradients.window.y0 (l.gradients.window.x1 - l.gradients.window.x0) ((l.y - l.gradients.window.y0) * (l.gradients.window.x1 - l.gradients.window.x0)) l.list.items
