-- A grid as lists: weights and flows in the order of the edges' numbers, excesses and potentials in that of the nodes.
use Rattle.std.specs.Prelude.{◌≡◌, ◌+◌, ◌<◌, ◌≤◌, ℕ, ℤ, pos, List, [], length, get_or, unsigned_abs}
use Rattle.raster_model.specs.declared.tiling.Window.{Window}
use Rattle.flow_network.specs.declared.limits.TheConstants.{POTENTIAL_BOUND}
use Rattle.flow_network.specs.Nets.{Shape, State}
use Rattle.dual_grid.specs.declared.limits.TheConstants.{MAX_REACHED_POTENTIAL}
use Rattle.dual_grid.specs.Nodes.{cells_of, edges_of}
use Rattle.dual_grid.specs.Grids.{arc_capacity, capacity_of, window_shape, window_state}

abbrev pub weight_in : List ℤ → ℕ → ℕ
weight_in weights n = unsigned_abs (get_or weights n (pos 0))

abbrev pub number_or_zero : List ℤ → ℕ → ℤ
number_or_zero zs n = get_or zs n (pos 0)

abbrev pub shape_by : Window → ℕ → List ℤ → Shape
shape_by window steep weights = window_shape window steep (weight_in weights)

abbrev pub state_by : Window → ℕ → List ℤ → List ℤ → List ℤ → List ℤ → State
state_by window steep weights flows excesses potentials = window_state window steep (weight_in weights) (number_or_zero flows) (number_or_zero excesses) (number_or_zero potentials)

-- the same where all potentials are 0
abbrev pub flat_state_by : Window → ℕ → List ℤ → List ℤ → List ℤ → State
flat_state_by window steep weights flows excesses = state_by window steep weights flows excesses []

-- the lists have one place for each edge or for each node
pub record FitGrid (window : Window) (weights flows excesses potentials : List ℤ) : Type 0 where
  pub by_weight : length weights ≡ edges_of window
  pub by_edge : length flows ≡ edges_of window
  pub by_node : length excesses ≡ cells_of window + 1
  pub by_height : length potentials ≡ cells_of window + 1

-- no flow is above the capacity
abbrev pub AreWithinCapacity : Window → ℕ → List ℤ → List ℤ → Type 0
AreWithinCapacity window steep weights flows = (n : ℕ) → unsigned_abs (number_or_zero flows n) ≤ capacity_of (arc_capacity window) steep (weight_in weights n)

-- no difference of two potentials leaves 64 bits
abbrev pub AreWithinReach : List ℤ → Type 0
AreWithinReach potentials = (u : ℕ) → unsigned_abs (number_or_zero potentials u) < POTENTIAL_BOUND

-- no potential is farther from 0 than those from which a network is gone on
abbrev pub AreLow : List ℤ → Type 0
AreLow potentials = (u : ℕ) → unsigned_abs (number_or_zero potentials u) ≤ MAX_REACHED_POTENTIAL
