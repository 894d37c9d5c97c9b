use Rattle.std.proofs.Common.{◌<◌, ◌≤◌, ◌^◌, ◌∙◌, ap, arith, get_or, sym}
use Rattle.std.specs.Prelude.{ℤ, pos, ◌+ℤ◌, ◌-ℤ◌, unsigned_abs}
use Rattle.std.proofs.lemmas.Int.{ints}
use Rattle.flow_network.specs.Nets.{Shape}
use Rattle.dual_grid.specs.Layout.{number_or_zero}
use Rattle.dual_grid.specs.Views.{grid_shape, grid_state}
use Rattle.network_solver.specs.Leveled.{leveled_shape}
use Rattle.network_solver.proofs.LevelLemmas.{leveled_kept, leveled_network, leveled_raised, may_raise_below}
use Rattle.network_solver.proofs.leveling.LeveledGridFlowNet.raise.Goals as goal

pub lift-requires-clause-kept : goal.lift-requires-clause-kept
lift-requires-clause-kept c = let x = c.args.self.now in may_raise_below (grid_shape x.grid) (number_or_zero x.base.items) c.args.amounts.now (grid_state x.grid) c.requires.kept

pub lift-requires-clause-within : goal.lift-requires-clause-within
lift-requires-clause-within c =
    λ u l.
    let x = c.args.self.now in
    reached ((grid_state x.grid).potential u) (number_or_zero x.base.items u) (get_or c.args.amounts.now u (pos 0)) (c.requires.within u l) (x.low u)
  where
    reached : (p b a : ℤ) → unsigned_abs (p -ℤ b +ℤ a) ≤ 2 ^ 61 → unsigned_abs b ≤ 2 ^ 30 → unsigned_abs (p +ℤ a) < 2 ^ 62
    reached p b a l m = omega (arith, ints, l, m)

pub invariant_of-self : goal.invariant_of-self
invariant_of-self c =
    let x = c.args.self.now in
    let g = c.lift.new.self in
    let base = number_or_zero x.base.items in
    record {
      count = x.count ∙ sym (ap (λ (s : Shape). s.nodes) c.lift.ensures.shape);
      low = x.low;
      is_network = leveled_network (grid_shape g) base g.is_network;
      has_reduced_costs = leveled_kept (grid_shape g) base (grid_state g) g.has_reduced_costs;
    }

pub returns-clause-shape : goal.returns-clause-shape
returns-clause-shape c = ap (λ (s : Shape). leveled_shape s (number_or_zero c.args.self.now.base.items)) c.lift.ensures.shape

pub returns-clause-raised : goal.returns-clause-raised
returns-clause-raised c = let x = c.args.self.now in leveled_raised (grid_shape x.grid) (number_or_zero x.base.items) c.args.amounts.now (grid_state x.grid) (grid_state c.lift.new.self) c.lift.ensures.raised
