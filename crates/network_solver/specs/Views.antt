-- A grid seen from potentials that were reached, as every network is seen.
use Rattle.flow_network.specs.Nets.{Shape, State}
use Rattle.dual_grid.specs.Layout.{number_or_zero}
use Rattle.dual_grid.specs.Views.{grid_shape, grid_state}
use Rattle.network_solver.specs.Leveled.{leveled_shape, leveled_state}
use Rattle.network_solver.specs.declared.leveling.LeveledGrid.{LeveledGrid}

abbrev pub shape_from : LeveledGrid → Shape
shape_from grid = leveled_shape (grid_shape grid.grid) (number_or_zero grid.base.items)

abbrev pub state_from : LeveledGrid → State
state_from grid = leveled_state (grid_state grid.grid) (number_or_zero grid.base.items)
