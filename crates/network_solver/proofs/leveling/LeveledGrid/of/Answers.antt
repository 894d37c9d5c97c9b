use Rattle.std.proofs.Common.{◌≡◌, ◌∙◌, List, ap, arith, length, subst, sym}
use Rattle.std.specs.Prelude.{ℤ, pos, ◌-ℤ◌}
use Rattle.std.proofs.lemmas.Int.{ints}
use Rattle.dual_grid.specs.Layout.{AreLow, number_or_zero}
use Rattle.dual_grid.specs.Views.{grid_shape, grid_state}
use Rattle.network_solver.proofs.LevelLemmas.{leveled_kept, leveled_network}
use Rattle.network_solver.proofs.leveling.LeveledGrid.of.Goals as goal

pub invariant_of-result : goal.invariant_of-result
invariant_of-result c =
    let g = c.args.grid in
    let base = number_or_zero c.in_ok-base.base.items in
    record {
      count = ap length c.in_ok-base.ensures ∙ g.fit.by_height;
      low = subst (λ (zs : List ℤ). AreLow zs) (sym c.in_ok-base.ensures) c.requires;
      is_network = leveled_network (grid_shape g) base g.is_network;
      has_reduced_costs = leveled_kept (grid_shape g) base (grid_state g) g.has_reduced_costs;
    }

pub returns-clause-flat : goal.returns-clause-flat
returns-clause-flat c = λ u l. subst (λ (zs : List ℤ). number_or_zero c.args.grid.potentials.items u -ℤ number_or_zero zs u ≡ pos 0) (sym c.in_ok-base.ensures) (omega (arith, ints))
