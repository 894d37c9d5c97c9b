use Rattle.std.proofs.Common.{ℕ, ◌<◌}
use Rattle.dual_grid.specs.Building.{IsHeldAt}
use Rattle.dual_grid.specs.Layout.{number_or_zero, weight_in}
use Rattle.dual_grid.proofs.grid.DualGrid.is_held.Given as goal

abbrev pub invariant-loop-edge : goal.invariant-loop-edge
invariant-loop-edge l = (n : ℕ) → n < l.edge → IsHeldAt l.self.window l.self.steep (weight_in l.self.weights.items) (number_or_zero l.flows) (number_or_zero l.potentials) n
