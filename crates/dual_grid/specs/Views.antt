-- A grid, seen as every network is, and what it was made from.
use Rattle.std.specs.Prelude.{◌≡◌, ℕ, List, Bool}
use Rattle.std.proofs.Common.{◌∙◌, refl, subst}
use Rattle.raster_model.specs.Raster.{Raster, residue}
use Rattle.raster_model.specs.declared.tiling.Window.{Window}
use Rattle.flow_network.specs.Nets.{Shape, State}
use Rattle.flow_network.specs.Moves.{IsConserved}
use Rattle.flow_network.proofs.CallerLemmas.{conserved-refl, conserved-trans}
use Rattle.dual_grid.specs.declared.grid.DualGrid.{DualGrid}
use Rattle.dual_grid.specs.Starts.{start_state, open_in_window}
use Rattle.dual_grid.specs.Grids.{AreWeighed, start_residual}
use Rattle.dual_grid.specs.Layout.{shape_by, state_by, weight_in}

abbrev pub grid_shape : DualGrid → Shape
grid_shape grid = shape_by grid.window grid.steep grid.weights.items

abbrev pub grid_state : DualGrid → State
grid_state grid = state_by grid.window grid.steep grid.weights.items grid.flows.items grid.excesses.items grid.potentials.items

-- what residual capacity the arcs of a grid have at the start
abbrev pub grid_start : DualGrid → ℕ → ℕ
grid_start grid = start_residual grid.window grid.steep (weight_in grid.weights.items)

-- the grid of a window of a raster; the list tells of each pixel of the window whether it is open; flow may have moved
pub record IsGridOf (raster : Raster) (v : Window) (unmasked : List Bool) (grid : DualGrid) : Type 0 where
  pub window : grid.window ≡ v
  pub steep : grid.steep ≡ raster.steep
  pub weighed : AreWeighed raster (open_in_window grid.window unmasked) grid.window (weight_in grid.weights.items)
  pub conserved : IsConserved (grid_shape grid) (start_state (grid_start grid) (residue raster) grid.window) (grid_state grid)

-- grids that were made from the same things
pub record HaveOneOrigin (g h : DualGrid) : Type 0 where
  pub window : h.window ≡ g.window
  pub steep : h.steep ≡ g.steep
  pub weights : h.weights.items ≡ g.weights.items
  pub shape : grid_shape h ≡ grid_shape g
  pub conserved : IsConserved (grid_shape g) (grid_state g) (grid_state h)

pub stays_of_one_origin : (g : DualGrid) → HaveOneOrigin g g
stays_of_one_origin grid = record { window = refl; steep = refl; weights = refl; shape = refl; conserved = conserved-refl (grid_shape grid) (grid_state grid) }

pub follows_of_one_origin : (g h k : DualGrid) → HaveOneOrigin g h → HaveOneOrigin h k → HaveOneOrigin g k
follows_of_one_origin g h k p q = record {
  window = q.window ∙ p.window;
  steep = q.steep ∙ p.steep;
  weights = q.weights ∙ p.weights;
  shape = q.shape ∙ p.shape;
  conserved = conserved-trans (grid_shape g) (grid_state g) (grid_state h) (grid_state k) p.conserved (subst (λ (s : Shape). IsConserved s (grid_state h) (grid_state k)) p.shape q.conserved);
}
