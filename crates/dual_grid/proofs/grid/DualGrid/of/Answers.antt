use Rattle.std.proofs.Common.{subst, sym}
use Rattle.std.specs.Prelude.{IfOk}
use Rattle.raster_model.specs.declared.tiling.Window.{Window}
use Rattle.raster_model.specs.Raster.{Raster, residue}
use Rattle.raster_model.specs.Scene.{raster_of}
use Rattle.wrapped_gradient.specs.Gradients.{AreGradientsOf}
use Rattle.wrapped_gradient.proofs.GradientLemmas.{if_ok_follows}
use Rattle.dual_grid.specs.Starts.{IsAtStart}
use Rattle.dual_grid.specs.Views.{IsGridOf, grid_shape, grid_start, grid_state}
use Rattle.dual_grid.proofs.SheetLemmas.{retiled_grid, retiled_start, tiled_gradients}
use Rattle.dual_grid.proofs.grid.DualGrid.of.Goals as goal

pub over-requires-clause-gradients : goal.over-requires-clause-gradients
over-requires-clause-gradients c = subst (λ (r : Raster). AreGradientsOf r c.args.gradients.now) (sym c.sheet.ensures.raster) (tiled_gradients (raster_of c.args.scene.now) (λ x y. 0) 1 c.args.gradients.now c.requires.gradients)

pub returns-clause-grid : goal.returns-clause-grid
returns-clause-grid c =
    let v = c.args.gradients.now.window in
    let unmasked = c.args.unmasked.now in
    subst (λ (v : Window). IfOk c.over.result (λ grid. IsGridOf (raster_of c.args.scene.now) v unmasked grid)) c.requires.window
    (if_ok_follows (retiled_grid (raster_of c.args.scene.now) (λ x y. 0) 1 v unmasked) c.over.result (subst (λ (r : Raster). IfOk c.over.result (λ grid. IsGridOf r v unmasked grid)) c.sheet.ensures.raster c.over.ensures.grid))

pub returns-clause-start : goal.returns-clause-start
returns-clause-start c =
    let v = c.args.gradients.now.window in
    subst (λ (v : Window). IfOk c.over.result (λ grid. IsAtStart (grid_start grid) (residue (raster_of c.args.scene.now)) v (grid_shape grid) (grid_state grid))) c.requires.window
    (if_ok_follows (retiled_start (raster_of c.args.scene.now) (λ x y. 0) 1 v) c.over.result (subst (λ (r : Raster). IfOk c.over.result (λ grid. IsAtStart (grid_start grid) (residue r) v (grid_shape grid) (grid_state grid))) c.sheet.ensures.raster c.over.ensures.start))
