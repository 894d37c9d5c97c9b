-- What is said of a raster is the same whatever tiles it has.
use Rattle.std.proofs.Common.{ℕ, List, Bool}
use Rattle.std.specs.Prelude.{ℤ}
use Rattle.raster_model.specs.declared.tiling.Window.{Window}
use Rattle.raster_model.specs.Raster.{Raster, residue}
use Rattle.raster_model.specs.Sums.{Field}
use Rattle.raster_model.specs.Tilings.{tiled_by}
use Rattle.wrapped_gradient.specs.declared.corrections.Corrections.{Corrections}
use Rattle.wrapped_gradient.specs.Gradients.{AreGradientsOf}
use Rattle.wrapped_gradient.specs.GradientsView.{GradientsView}
use Rattle.dual_grid.specs.declared.grid.DualGrid.{DualGrid}
use Rattle.dual_grid.specs.Answers.{AreCertifiedOver}
use Rattle.dual_grid.specs.Starts.{IsAtStart}
use Rattle.dual_grid.specs.Views.{IsGridOf, grid_shape, grid_start, grid_state}

module _ (r : Raster) (tile : Field ℕ) (n : ℕ) where
  pub tiled_gradients : (g : GradientsView) → AreGradientsOf r g → AreGradientsOf (tiled_by r tile n) g
  tiled_gradients g h = record { inside = h.inside; differences = h.differences }

  pub retiled_grid : (v : Window) (unmasked : List Bool) (g : DualGrid) → IsGridOf (tiled_by r tile n) v unmasked g → IsGridOf r v unmasked g
  retiled_grid v unmasked g h = record { window = h.window; steep = h.steep; weighed = h.weighed; conserved = h.conserved }

  pub retiled_start : (v : Window) (g : DualGrid) → IsAtStart (grid_start g) (residue (tiled_by r tile n)) v (grid_shape g) (grid_state g) → IsAtStart (grid_start g) (residue r) v (grid_shape g) (grid_state g)
  retiled_start v g h = h

  pub retiled_answer : (mask : Field Bool) (v : Window) (k : Corrections) (faces : List ℤ) → AreCertifiedOver (tiled_by r tile n) mask v k faces → AreCertifiedOver r mask v k faces
  retiled_answer mask v k faces h = h
