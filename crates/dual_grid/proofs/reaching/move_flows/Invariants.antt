use Rattle.std.proofs.Common.{◌≡◌, ◌+◌, ◌*◌, ◌≤◌, ℕ, length}
use Rattle.std.specs.Prelude.{◌-ℤ◌, unsigned_abs}
use Rattle.dual_grid.specs.Building.{leaves}
use Rattle.dual_grid.specs.Layout.{number_or_zero}
use Rattle.dual_grid.specs.Nodes.{cells_of}
use Rattle.sums_and_lists.specs.Sums.{sum_below}
use Rattle.dual_grid.proofs.reaching.move_flows.Given as goal

abbrev pub invariant-loop-edge : goal.invariant-loop-edge
invariant-loop-edge l = record {
  length : length l.excesses.items ≡ cells_of l.window + 1;
  moved : (u : ℕ) → number_or_zero l.excesses.items u ≡ number_or_zero l.initial.excesses.items u -ℤ sum_below l.edge (leaves l.window (number_or_zero l.flows) u);
  small : (u : ℕ) → unsigned_abs (number_or_zero l.excesses.items u) ≤ 268435456 + l.edge * 536870912;
}
