use Rattle.dual_grid.specs.Building.{AreFaces}
use Rattle.dual_grid.specs.Layout.{number_or_zero}
use Rattle.dual_grid.proofs.answering.faces.Given as goal

abbrev pub invariant-loop-cell : goal.invariant-loop-cell
invariant-loop-cell l = AreFaces (number_or_zero l.potentials) l.cells l.cell l.list.items
