-- What makes sure that a window's network can be balanced from where it stands. This is a helper's word, which no clause of a public function cites.
use Rattle.std.specs.Prelude.{◌≡◌, ℕ, ◌<◌, pos}
use Rattle.flow_network.specs.Nets.{Shape, State}
use Rattle.dual_grid.specs.Answers.{StaysNearStart}
use Rattle.dual_grid.specs.Grids.{IsConnected}
use Rattle.shortest_augment.specs.Balance.{BoundsCosts}

-- All potentials are 0, costs are small, less has flowed and is to flow than there are nodes, and an arc that took as much at the start leads out of any set of nodes.
pub record CanBeBalanced (start : ℕ → ℕ) (shape : Shape) (state : State) : Type 0 where
  pub flat : (u : ℕ) → u < shape.nodes → state.potential u ≡ pos 0
  pub bounded : (c : ℕ) × BoundsCosts shape c
  pub near : StaysNearStart start shape state
  pub joined : IsConnected start shape
