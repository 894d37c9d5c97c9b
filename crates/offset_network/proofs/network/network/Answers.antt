use Rattle.std.proofs.Common.{◌≡◌, ℕ, subst, sym, arith, length}
use Rattle.std.proofs.lemmas.Int.{ints}
use Rattle.flow_network.specs.Views.{shape_of, state_of}
use Rattle.offset_network.specs.Lanes.{IsLaneIn, lane_at}
use Rattle.offset_network.specs.Networks.{IsStarted}
use Rattle.offset_network.proofs.LaneLemmas.{arcs-few}
use Rattle.offset_network.proofs.StartLemmas.{started, started_next}
use Rattle.offset_network.proofs.network.network.Goals as goal

pub new-requires-clause-room : goal.new-requires-clause-room
new-requires-clause-room c =
    let are = c.in_ok-supplies.ensures in
    omega (arith, ints, are.sizes, c.requires.few)

pub loop-lane-init : goal.loop-lane-init
loop-lane-init c =
    let net = c.in_ok-net.net in
    let made = c.in_ok-net.ensures in
    started c.args.regions c.args.lanes.now c.in_ok-supplies.field-0.items (shape_of net) (state_of net) c.in_ok-supplies.ensures made.nodes made.arcs made.excess made.potential

pub join-requires-clause-fits : goal.join-requires-clause-fits
join-requires-clause-fits c = subst (λ (n : ℕ). IsLaneIn n (lane_at c.args.lanes.now c.loop-lane.lane-index)) (sym c.loop-lane.invariant.built.nodes) (c.requires.each c.loop-lane.lane-index)

pub join-requires-clause-count : goal.join-requires-clause-count
join-requires-clause-count c = omega (arith, c.loop-lane.invariant.built.arcs, arcs-few c.args.lanes.now c.loop-lane.lane-index, c.requires.few)

pub join-requires-clause-room : goal.join-requires-clause-room
join-requires-clause-room c = omega (arith, ints, c.loop-lane.invariant.amount, c.requires.few)

pub loop-lane-preserved : goal.loop-lane-preserved
loop-lane-preserved c =
    let net = c.join.new.net in
    started_next c.args.regions c.args.lanes.now c.loop-lane.lane-index (shape_of c.loop-lane.net) (shape_of net) (state_of c.loop-lane.net) (state_of net) net.is_network c.loop-lane.invariant (c.requires.each c.loop-lane.lane-index) c.in_ok-join.ensures

pub returns : goal.returns
returns c =
    let last : c.loop-lane.lane-index ≡ length c.args.lanes.now = omega arith in
    subst (λ (i : ℕ). IsStarted c.args.regions c.args.lanes.now i (shape_of c.loop-lane.net) (state_of c.loop-lane.net)) last c.loop-lane.invariant
