use Rattle.std.proofs.Common.{subst, sym}
use Rattle.flow_network.specs.Nets.{Shape, HasReducedCosts}
use Rattle.flow_network.specs.Views.{shape_of, state_of}
use Rattle.offset_network.specs.Networks.{IsSolved}
use Rattle.offset_network.proofs.StartLemmas.{bounds_costs}
use Rattle.offset_network.proofs.FlowLemmas.{arcs_stay, has_flows}
use Rattle.offset_network.proofs.BlockLemmas.{never_blocked}
use Rattle.offset_network.proofs.network.solved.Goals as goal

pub balance-requires-clause-flat : goal.balance-requires-clause-flat
balance-requires-clause-flat c = λ v l. c.in_ok-net.ensures.flat v (rw c.in_ok-net.ensures.built.nodes at l)

pub balance-requires-clause-bounded : goal.balance-requires-clause-bounded
balance-requires-clause-bounded c = (16777218, bounds_costs c.args.regions c.args.lanes.now (shape_of c.in_ok-net.net) (state_of c.in_ok-net.net) c.in_ok-net.net.is_network c.requires c.in_ok-net.ensures)

pub unreachable-requires : goal.unreachable-requires
unreachable-requires c =
    let n = c.args.regions in
    let lanes = c.args.lanes.now in
    let old = c.in_ok-net.net in
    let g = state_of c.balance.new.net in
    let made = c.in_ok-net.ensures in
    let same = c.balance.ensures.kept.conserved in
    let blocked = rw (c.in-Err-Blocked.is, c.in-Err-Blocked.field-0-is) at c.balance.ensures.blocked in
    never_blocked n lanes (shape_of old) g old.is_network c.requires (arcs_stay n lanes (shape_of old) (state_of old) g old.is_network made same) (has_flows n lanes (shape_of old) (state_of old) g old.is_network made same) c.in-Err-Blocked.field-0-0.items blocked

pub returns-in-Ok : goal.returns-in-Ok
returns-in-Ok c =
    let n = c.args.regions in
    let lanes = c.args.lanes.now in
    let old = c.in_ok-net.net in
    let net = c.balance.new.net in
    let g = state_of net in
    let made = c.in_ok-net.ensures in
    let same = c.balance.ensures.kept.conserved in
    subst (λ (z : Shape). IsSolved n lanes z g) (sym c.balance.ensures.kept.shape)
    (record {
      built = arcs_stay n lanes (shape_of old) (state_of old) g old.is_network made same;
      flows = has_flows n lanes (shape_of old) (state_of old) g old.is_network made same;
      balanced = c.in-Ok.ensures.balanced;
      heights = c.in-Ok.ensures.bounded 16777218 (bounds_costs n lanes (shape_of old) (state_of old) old.is_network c.requires made);
      reduced = subst (λ (z : Shape). HasReducedCosts z g) c.balance.ensures.kept.shape net.has_reduced_costs;
    })
