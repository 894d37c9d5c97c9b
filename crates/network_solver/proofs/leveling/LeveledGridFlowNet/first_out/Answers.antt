use Rattle.dual_grid.specs.Layout.{number_or_zero}
use Rattle.dual_grid.specs.Views.{grid_shape}
use Rattle.network_solver.proofs.LevelLemmas.{leveled_next}
use Rattle.network_solver.proofs.leveling.LeveledGridFlowNet.first_out.Goals as goal

pub returns : goal.returns
returns c = let x = c.args.self.now in leveled_next (grid_shape x.grid) (number_or_zero x.base.items) _ _ _ c.first_out.ensures
