use Rattle.wrapped_gradient.specs.Rows.{AreDifferences}
use Rattle.wrapped_gradient.proofs.gradients.set_differences.Given as goal

abbrev pub invariant-loop-place : goal.invariant-loop-place
invariant-loop-place l = AreDifferences l.slope l.from l.to l.start l.place l.fn.list l.list
