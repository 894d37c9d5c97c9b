use Rattle.std.proofs.Common.{◌*◌, arith, refl}
use Rattle.dual_grid.specs.Layout.{weight_in}
use Rattle.dual_grid.specs.Views.{grid_shape}
use Rattle.dual_grid.proofs.OutLemmas.{next_edge, no_arc, none_across}
use Rattle.dual_grid.proofs.grid.DualGrid.out_before.Goals as goal

pub out_across-requires-clause-edge : goal.out_across-requires-clause-edge
out_across-requires-clause-edge c =
    let below = rw c.in-Some.is at c.edge_below.ensures in
    let before = (below.found c.in-Some.before refl).0 in
    omega (arith, before, c.requires.edge)

pub returns-in-Some : goal.returns-in-Some
returns-in-Some c =
    let g = c.args.self.now in
    let below = rw c.in-Some.is at c.edge_below.ensures in
    let before = below.found c.in-Some.before refl in
    next_edge g.window g.steep (weight_in g.weights.items) c.args.node c.in-Some.before c.args.edge c.out_across.result c.requires.edge before.0 before.1 before.2 c.out_across.ensures

pub returns-in-None : goal.returns-in-None
returns-in-None c =
    let g = c.args.self.now in
    let below = rw c.in-None.is at c.edge_below.ensures in
    no_arc (grid_shape g) c.args.node (c.args.edge * 8) (none_across g.window g.steep (weight_in g.weights.items) c.args.node 0 c.args.edge (below.ended refl))
