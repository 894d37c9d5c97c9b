use Rattle.std.proofs.Common.{◌≡◌, ◌/◌, ◌%◌, ◌∙◌, ap, refl, sym, arith, rules, FitsSigned, to_z, of_z, w32, ℤ}
use Rattle.std.proofs.Math.ListN.{set, length-set}
use Rattle.std.proofs.lemmas.Int.{to_z-of_z}
use Rattle.flow_network.specs.Nets.{State}
use Rattle.flow_network.specs.Moves.{IsPushed}
use Rattle.flow_network.proofs.CallerLemmas.{conserved-pushed, kept-pushed}
use Rattle.flow_network.proofs.RoomLemmas.{high-fits, low-fits, room-pushed}
use Rattle.dual_grid.specs.declared.grid.DualGrid.{DualGrid}
use Rattle.dual_grid.specs.Layout.{flat_state_by, number_or_zero, state_by, weight_in}
use Rattle.dual_grid.specs.Views.{grid_shape, grid_state}
use Rattle.dual_grid.specs.Grids.{arc_capacity}
use Rattle.dual_grid.proofs.ArcLemmas.{arc_below}
use Rattle.dual_grid.proofs.EdgeLemmas.{capacity_few}
use Rattle.dual_grid.proofs.FlowLemmas.{flow_after, residual_small}
use Rattle.dual_grid.proofs.PushLemmas.{pushed_lists, within_after, within_all}
use Rattle.dual_grid.proofs.ReadLemmas.{read_32}
use Rattle.dual_grid.proofs.grid.DualGridFlowNet.push.Goals as goal
use Rattle.dual_grid.proofs.grid.DualGridFlowNet.push.Goals.{After-carry}

-- the grid's state where all potentials are 0
abbrev flat_state : DualGrid → State
flat_state g = flat_state_by g.window g.steep g.weights.items g.flows.items g.excesses.items

pub flow_after-requires-clause-flow : goal.flow_after-requires-clause-flow
flow_after-requires-clause-flow c =
    let g = c.args.self.now in
    let l = arc_below g.window g.steep (weight_in g.weights.items) c.args.arc c.requires.arc in
    let fits : FitsSigned w32 c.index-flow.result.now = search rules in
    rw (read_32 g.flows.items (c.args.arc / 8) c.index-flow.result.now fits (omega (arith, l, g.fit.by_edge)) c.index-flow.ensures) (within_all g.window g.limited g.steep g.weights.items g.flows.items g.within (c.args.arc / 8))

pub flow_after-requires-clause-amount : goal.flow_after-requires-clause-amount
flow_after-requires-clause-amount c =
    let g = c.args.self.now in
    let small = residual_small (arc_capacity g.window) g.steep (weight_in g.weights.items (c.args.arc / 8)) (number_or_zero g.flows.items (c.args.arc / 8)) (c.args.arc % 8) (capacity_few g.window g.limited) (within_all g.window g.limited g.steep g.weights.items g.flows.items g.within (c.args.arc / 8)) in
    let room = c.requires.room in
    omega (arith, small, room)

pub carry-requires-clause-amount : goal.carry-requires-clause-amount
carry-requires-clause-amount c =
    let g = c.args.self.now in
    let small = residual_small (arc_capacity g.window) g.steep (weight_in g.weights.items (c.args.arc / 8)) (number_or_zero g.flows.items (c.args.arc / 8)) (c.args.arc % 8) (capacity_few g.window g.limited) (within_all g.window g.limited g.steep g.weights.items g.flows.items g.within (c.args.arc / 8)) in
    let room = c.requires.room in
    omega (arith, small, room)

pub carry-requires-clause-from : goal.carry-requires-clause-from
carry-requires-clause-from c =
    let g = c.args.self.now in
    let net = g.is_network in
    let below = net.ends ((grid_shape g).twin c.args.arc) (net.has_twin c.args.arc c.requires.arc) in
    omega (arith, below, c.tail-tail.ensures, g.fit.by_node)

pub carry-requires-clause-low : goal.carry-requires-clause-low
carry-requires-clause-low c =
    let g = c.args.self.now in
    rw c.tail-tail.ensures (low-fits (grid_shape g) c.args.arc c.args.amount (flat_state g) g.is_network c.requires.arc g.room c.requires.room)

pub carry-requires-clause-high : goal.carry-requires-clause-high
carry-requires-clause-high c = λ apart. (
    let g = c.args.self.now in
    rw c.head-head.ensures (high-fits (grid_shape g) c.args.arc c.args.amount (flat_state g) g.is_network c.requires.arc g.room c.requires.room (λ e. apart (c.tail-tail.ensures ∙ e ∙ sym c.head-head.ensures))))

-- the flow that is written
flow_written : (c : goal.After-carry) → to_z w32 (of_z w32 c.flow_after.result) ≡ flow_after (number_or_zero c.args.self.now.flows.items (c.args.arc / 8)) (c.args.arc % 8) c.args.amount
flow_written c =
    let g = c.args.self.now in
    let l = arc_below g.window g.steep (weight_in g.weights.items) c.args.arc c.requires.arc in
    let fits : FitsSigned w32 c.flow_after.result = search rules in
    let read : FitsSigned w32 c.index-flow.result.now = search rules in
    to_z-of_z w32 c.flow_after.result fits ∙ c.flow_after.ensures
    ∙ ap (λ (q : ℤ). flow_after q (c.args.arc % 8) c.args.amount) (read_32 g.flows.items (c.args.arc / 8) c.index-flow.result.now read (omega (arith, l, g.fit.by_edge)) c.index-flow.ensures)

pushed : (c : goal.After-carry) → IsPushed (grid_shape c.args.self.now) c.args.arc c.args.amount (grid_state c.args.self.now) (state_by c.args.self.now.window c.args.self.now.steep c.args.self.now.weights.items (set c.args.self.now.flows.items (c.args.arc / 8) (to_z w32 (of_z w32 c.flow_after.result))) c.carry.new.values.items c.args.self.now.potentials.items)
pushed c =
    let g = c.args.self.now in
    pushed_lists g.window g.steep g.weights.items g.flows.items g.excesses.items g.potentials.items c.args.arc c.args.amount g.fit g.within g.has_reduced_costs c.requires.arc c.requires.tight c.requires.room
    (to_z w32 (of_z w32 c.flow_after.result)) (flow_written c) c.carry.new.values.items c.tail-tail.result c.head-head.result c.tail-tail.ensures c.head-head.ensures c.carry.ensures.carried

pub invariant_of-self : goal.invariant_of-self
invariant_of-self c =
    let g = c.args.self.now in
    let moved = pushed c in
    record {
      limited = g.limited;
      steepness = g.steepness;
      fit = record {
        by_weight = g.fit.by_weight;
        by_edge = length-set g.flows.items (c.args.arc / 8) (to_z w32 (of_z w32 c.flow_after.result)) ∙ g.fit.by_edge;
        by_node = c.carry.ensures.length ∙ g.fit.by_node;
        by_height = g.fit.by_height;
      };
      within = within_after g.window g.steep g.weights.items g.flows.items g.excesses.items g.potentials.items c.args.arc c.args.amount g.fit g.within g.has_reduced_costs c.requires.arc c.requires.tight c.requires.room (to_z w32 (of_z w32 c.flow_after.result)) (flow_written c);
      is_network = g.is_network;
      room = room-pushed (grid_shape g) c.args.arc c.args.amount (flat_state g) _ g.is_network c.requires.arc (record { residual = moved.residual; excess = moved.excess; potential = λ u l. refl }) g.room;
      reach = g.reach;
      has_reduced_costs = kept-pushed (grid_shape g) c.args.arc c.args.amount (grid_state g) _ g.is_network g.has_reduced_costs c.requires.arc c.requires.tight moved;
    }

pub returns-clause-pushed : goal.returns-clause-pushed
returns-clause-pushed c = pushed (goal.at.returns-clause-pushed c).After-carry

pub returns-clause-origin : goal.returns-clause-origin
returns-clause-origin c =
    let g = c.args.self.now in
    record {
      window = refl;
      steep = refl;
      weights = refl;
      shape = refl;
      conserved = conserved-pushed (grid_shape g) c.args.arc c.args.amount (grid_state g) _ g.is_network c.requires.arc (pushed (goal.at.returns-clause-origin c).After-carry);
    }
