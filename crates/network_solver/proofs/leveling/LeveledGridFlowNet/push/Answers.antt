use Rattle.std.proofs.Common.{◌∙◌, ap, sym}
use Rattle.flow_network.specs.Nets.{Shape}
use Rattle.dual_grid.specs.Layout.{number_or_zero}
use Rattle.dual_grid.specs.Views.{grid_shape, grid_state}
use Rattle.network_solver.specs.Leveled.{leveled_shape}
use Rattle.network_solver.proofs.LevelLemmas.{leveled_kept, leveled_network, leveled_pushed, same_reduced_cost}
use Rattle.network_solver.proofs.leveling.LeveledGridFlowNet.push.Goals as goal

pub push-requires-clause-tight : goal.push-requires-clause-tight
push-requires-clause-tight c = let x = c.args.self.now in sym (same_reduced_cost (grid_shape x.grid) (number_or_zero x.base.items) (grid_state x.grid) c.args.arc) ∙ c.requires.tight

pub invariant_of-self : goal.invariant_of-self
invariant_of-self c =
    let x = c.args.self.now in
    let g = c.push.new.self in
    let base = number_or_zero x.base.items in
    record {
      count = x.count ∙ sym (ap (λ (s : Shape). s.nodes) c.push.ensures.shape);
      low = x.low;
      is_network = leveled_network (grid_shape g) base g.is_network;
      has_reduced_costs = leveled_kept (grid_shape g) base (grid_state g) g.has_reduced_costs;
    }

pub returns-clause-shape : goal.returns-clause-shape
returns-clause-shape c = ap (λ (s : Shape). leveled_shape s (number_or_zero c.args.self.now.base.items)) c.push.ensures.shape

pub returns-clause-pushed : goal.returns-clause-pushed
returns-clause-pushed c = let x = c.args.self.now in leveled_pushed (grid_shape x.grid) (number_or_zero x.base.items) c.args.arc c.args.amount (grid_state x.grid) (grid_state c.push.new.self) c.push.ensures.pushed
