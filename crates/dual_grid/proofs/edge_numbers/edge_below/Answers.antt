use Rattle.std.proofs.Common.{◌≡◌, arith, subst, ℕ}
use Rattle.dual_grid.specs.Building.{IsEdgeBelow}
use Rattle.dual_grid.specs.Nodes.{cells_of}
use Rattle.dual_grid.proofs.edge_numbers.edge_below.Goals as goal

pub returns-else-node-outside : goal.returns-else-node-outside
returns-else-node-outside c =
    let e : cells_of c.args.window ≡ c.args.node = omega arith in
    subst (λ (u : ℕ). IsEdgeBelow c.args.window u c.args.high c.border_below.result) e c.border_below.ensures
