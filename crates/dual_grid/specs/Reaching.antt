-- From which corrections and faces a grid goes on, and from which flows and potentials.
use Rattle.std.specs.Prelude.{◌≡◌, ℕ, ◌+◌, ◌<◌, ℤ, pos, ◌+ℤ◌, ◌-ℤ◌, ◌≤ℤ◌, Bool, List, length}
use Rattle.raster_model.specs.declared.edge.Edge.{Edge}
use Rattle.raster_model.specs.declared.tiling.Window.{Window}
use Rattle.raster_model.specs.Raster.{Raster, masked_weight, residue}
use Rattle.flow_network.specs.Nets.{positive_part}
use Rattle.wrapped_gradient.specs.declared.corrections.Corrections.{Corrections}
use Rattle.wrapped_gradient.specs.Corrections.{HasShapeOf, correction_at, greatest, greatest_of}
use Rattle.wrapped_gradient.specs.Windows.{IsEdgeOf}
use Rattle.dual_grid.specs.Building.{IsHeldAt, IsHeldBy, leaves}
use Rattle.dual_grid.specs.Layout.{AreLow, number_or_zero}
use Rattle.dual_grid.specs.Nodes.{cells_of, edge_of, edges_of, first_side, other_side}
use Rattle.dual_grid.specs.Problems.{face_of}
use Rattle.dual_grid.specs.Starts.{open_in_window, supply_at}
use Rattle.sums_and_lists.specs.Sums.{sum_below}

-- what a node has left of its excess after these have flowed across the edges, by their numbers
abbrev pub left_after : Window → (ℕ → ℤ) → (ℕ → ℤ) → ℕ → ℤ
left_after window flow excess u = excess u -ℤ sum_below (edges_of window) (leaves window flow u)

-- what all nodes have to send, where these are their excesses
abbrev pub to_send : Window → (ℕ → ℤ) → ℤ
to_send window excess = sum_below (cells_of window + 1) (λ u. positive_part (excess u))

-- what flows across the edges by their numbers, where these are the corrections
abbrev pub correction_flow : Window → Corrections → ℕ → ℤ
correction_flow window corrections n = correction_at window corrections (edge_of window n)

-- corrections and faces from which the grid over a window goes on: they have the window's shape, the faces are low, the faces on the sides of each edge hold its correction at its weight under the mask, and the greatest correction and what all nodes have to send after the corrections are together no more than the window has cells
pub record MayGoOn (raster : Raster) (window : Window) (unmasked : List Bool) (corrections : Corrections) (faces : List ℤ) : Type 0 where
  pub shape : HasShapeOf window corrections
  pub count : length faces ≡ cells_of window
  pub low : AreLow faces
  pub held : (e : Edge) → IsEdgeOf window e → IsHeldBy raster.steep (masked_weight raster (open_in_window window unmasked) e) (face_of faces (first_side window e) -ℤ face_of faces (other_side window e)) (correction_at window corrections e)
  pub within : (pos (greatest_of corrections) +ℤ to_send window (left_after window (correction_flow window corrections) (supply_at (residue raster) window))) ≤ℤ pos (cells_of window)

-- the same of flows and potentials as a grid holds them, where the nodes have these excesses before
pub record FlowsMayGoOn (window : Window) (steep : ℕ) (weight : ℕ → ℕ) (excess : ℕ → ℤ) (flows : List ℤ) (potential : ℕ → ℤ) : Type 0 where
  pub count : length flows ≡ edges_of window
  pub held : (n : ℕ) → n < edges_of window → IsHeldAt window steep weight (number_or_zero flows) potential n
  pub within : (pos (greatest flows) +ℤ to_send window (left_after window (number_or_zero flows) excess)) ≤ℤ pos (cells_of window)
