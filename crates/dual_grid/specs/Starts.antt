-- How a grid starts: what flows, what excess each node has, and which pixels are open.
use Rattle.std.specs.Prelude.{◌≡◌, ℕ, ◌+◌, ◌-◌, ◌/◌, ◌%◌, ◌<◌, ℤ, pos, neg_ℤ, Bool, if◌then◌else◌, nat_lt, List, slice_index_or}
use Rattle.raster_model.specs.declared.tiling.Window.{Window}
use Rattle.raster_model.specs.Sums.{Field}
use Rattle.raster_model.specs.Tiles.{IsWithin, place_in}
use Rattle.flow_network.specs.Nets.{Shape, State, IsArc}
use Rattle.dual_grid.specs.Nodes.{cells_of}
use Rattle.sums_and_lists.specs.Sums.{sum_below}

-- the value at the cell with a number
abbrev pub cell_value : Field ℤ → Window → ℕ → ℤ
cell_value f window u = f (window.x0 + u % (window.x1 - window.x0)) (window.y0 + u / (window.x1 - window.x0))

-- what excess a node has at the start, for the residues f: a cell its residue, and the outside minus the sum of all
unfoldable pub supply_at : Field ℤ → Window → ℕ → ℤ
supply_at f window u = if nat_lt u (cells_of window) then cell_value f window u else neg_ℤ (sum_below (cells_of window) (cell_value f window))

-- the state at the start, where each arc has the residual capacity `start`
abbrev pub start_state : (ℕ → ℕ) → Field ℤ → Window → State
start_state start f window = record { residual = start; excess = supply_at f window; potential = λ u. pos 0 }

-- the network is as at the start
pub record IsAtStart (start : ℕ → ℕ) (f : Field ℤ) (window : Window) (shape : Shape) (state : State) : Type 0 where
  pub residual : (a : ℕ) → IsArc shape a → state.residual a ≡ start a
  pub excess : (u : ℕ) → u < shape.nodes → state.excess u ≡ supply_at f window u
  pub potential : (u : ℕ) → u < shape.nodes → state.potential u ≡ pos 0

-- which pixels are open, by a list that tells it of each pixel of the window in row order
abbrev pub open_in_window : Window → List Bool → Field Bool
open_in_window window unmasked x y = slice_index_or unmasked (place_in window x y) Bool.false

-- the list tells what the mask has at the window's pixels
abbrev pub TellsMask : Window → List Bool → Field Bool → Type 0
TellsMask window unmasked mask = (x y : ℕ) → IsWithin window x y → open_in_window window unmasked x y ≡ mask x y
