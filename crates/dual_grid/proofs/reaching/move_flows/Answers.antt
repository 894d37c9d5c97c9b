use Rattle.std.proofs.Common.{◌≡◌, ◌∙◌, arith, to_z, of_z, w64}
use Rattle.std.specs.Prelude.{pos, neg_ℤ, ◌-ℤ◌, ◌==◌}
use Rattle.std.proofs.lemmas.Int.{ints}
use Rattle.dual_grid.specs.Building.{leaves}
use Rattle.dual_grid.specs.Layout.{number_or_zero}
use Rattle.dual_grid.specs.Nodes.{edge_of}
use Rattle.dual_grid.proofs.EdgeLemmas.{few_edges}
use Rattle.dual_grid.proofs.NodeLemmas.{first_below, other_below}
use Rattle.dual_grid.proofs.ReachedLemmas.{moved_more, moved_none, small_more, where_small}
use Rattle.sums_and_lists.specs.Sums.{where_true}
use Rattle.dual_grid.proofs.reaching.move_flows.Goals as goal
use Rattle.dual_grid.proofs.reaching.move_flows.Goals.{After-first_at}

pub loop-edge-init : goal.loop-edge-init
loop-edge-init c = record {
  length = c.requires.nodes;
  moved = λ u. moved_none (leaves c.args.window (number_or_zero c.args.flows.now) u) (number_or_zero c.args.excesses.now.items u);
  small = c.requires.small;
}

-- the flow as code has it, and turned
flow_is : (c : After-first_at) → to_z w64 (of_z w64 c.from-flow.result) ≡ number_or_zero c.args.flows.now c.loop-edge.edge
flow_is c = let q = c.requires.flows c.loop-edge.edge in omega (arith, ints, c.from-flow.ensures, q)

turned_is : (c : After-first_at) → to_z w64 (of_z w64 (pos 0 -ℤ to_z w64 (of_z w64 c.from-flow.result))) ≡ neg_ℤ (number_or_zero c.args.flows.now c.loop-edge.edge)
turned_is c = let q = c.requires.flows c.loop-edge.edge in let e = flow_is c in omega (arith, ints, e, q)

pub add_at-requires-clause-at : goal.add_at-requires-clause-at
add_at-requires-clause-at c = let l = first_below c.args.window (edge_of c.args.window c.loop-edge.edge) in omega (arith, l, c.first_at.ensures, c.loop-edge.invariant.length)

pub add_at-requires-clause-fits : goal.add_at-requires-clause-fits
add_at-requires-clause-fits c =
    let p = (goal.at.add_at-requires-clause-fits c).After-first_at in
    let q = c.requires.flows c.loop-edge.edge in
    let e = turned_is p in
    let s = c.loop-edge.invariant.small c.first_at.result in
    let few = few_edges c.args.window c.requires.limited in
    omega (arith, ints, e, q, s, few, c.loop-edge-test.true, c.requires.edges)

pub add_at-requires-in-loop-edge-clause-at : goal.add_at-requires-in-loop-edge-clause-at
add_at-requires-in-loop-edge-clause-at c = let l = other_below c.args.window (edge_of c.args.window c.loop-edge.edge) in omega (arith, l, c.other_at.ensures, c.add_at.ensures.length, c.loop-edge.invariant.length)

pub add_at-requires-in-loop-edge-clause-fits : goal.add_at-requires-in-loop-edge-clause-fits
add_at-requires-in-loop-edge-clause-fits c =
    let p = (goal.at.add_at-requires-in-loop-edge-clause-fits c).After-first_at in
    let q = c.requires.flows c.loop-edge.edge in
    let e = turned_is p in
    let f = flow_is p in
    let s = c.loop-edge.invariant.small c.other_at.result in
    let few = few_edges c.args.window c.requires.limited in
    let added = c.add_at.ensures.added c.other_at.result in
    let w = where_small (c.other_at.result == c.first_at.result) (to_z w64 (of_z w64 (pos 0 -ℤ to_z w64 (of_z w64 c.from-flow.result)))) 268435456 (omega (arith, ints, e, q)) in
    omega (arith, ints, f, q, s, few, added, w, c.loop-edge-test.true, c.requires.edges)

pub loop-edge-preserved : goal.loop-edge-preserved
loop-edge-preserved c =
    let p = (goal.at.loop-edge-preserved c).After-first_at in
    let q = c.requires.flows c.loop-edge.edge in
    let e = turned_is p in
    let f = flow_is p in
    let turned = to_z w64 (of_z w64 (pos 0 -ℤ to_z w64 (of_z w64 c.from-flow.result))) in
    let flow = to_z w64 (of_z w64 c.from-flow.result) in
    record {
      length = c.add_at-in-loop-edge.ensures.length ∙ c.add_at.ensures.length ∙ c.loop-edge.invariant.length;
      moved = λ u. moved_more c.args.window (number_or_zero c.args.flows.now) u c.loop-edge.edge c.first_at.result c.other_at.result _ _ _ (number_or_zero c.args.excesses.now.items u) turned flow c.first_at.ensures c.other_at.ensures e f (c.add_at.ensures.added u) (c.add_at-in-loop-edge.ensures.added u) (c.loop-edge.invariant.moved u);
      small = λ u. small_more c.loop-edge.edge _ _ _ (where_true (u == c.first_at.result) turned) (where_true (u == c.other_at.result) flow) (where_small (u == c.first_at.result) turned 268435456 (omega (arith, ints, e, q))) (where_small (u == c.other_at.result) flow 268435456 (omega (arith, ints, f, q))) (c.add_at.ensures.added u) (c.add_at-in-loop-edge.ensures.added u) (c.loop-edge.invariant.small u);
    }
