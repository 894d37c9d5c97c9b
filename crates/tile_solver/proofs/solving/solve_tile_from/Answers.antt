use Rattle.std.proofs.Common.{◌≡◌, ◌∙◌, subst, sym, refl}
use Rattle.raster_model.specs.declared.tiling.Window.{Window}
use Rattle.raster_model.specs.Scene.{raster_of}
use Rattle.raster_model.specs.Tiles.{IsWindowOf, window_of}
use Rattle.dual_grid.specs.Answers.{AreCertifiedCorrections}
use Rattle.dual_grid.specs.Starts.{open_in_window}
use Rattle.tile_solver.proofs.ResultLemmas.{corrections_small, good_result, small_side}
use Rattle.tile_solver.proofs.solving.solve_tile_from.Goals as goal

-- the answer of the grid under the mask that the list tells, over the window of the gradients
answers : (c : goal.After-corrections-2-1) → AreCertifiedCorrections (raster_of c.args.scene.now) (open_in_window (window_of c.args.scene.now.tiling c.args.tile) c.args.unmasked.now) c.args.tile c.in_ok-gradients.gradients.window c.in_ok-corrections.corrections c.in_ok-corrections.faces.items
answers c =
    let v = window_of c.args.scene.now.tiling c.args.tile in
    let mask = open_in_window v c.args.unmasked.now in
    subst (λ (w : Window). AreCertifiedCorrections (raster_of c.args.scene.now) mask c.args.tile w c.in_ok-corrections.corrections c.in_ok-corrections.faces.items) (sym (c.in_ok-gradients.ensures.window ∙ c.window-window.ensures.value))
    (c.in_ok-corrections.ensures mask (λ x y w. refl))

pub integrate-requires-clause-shape : goal.integrate-requires-clause-shape
integrate-requires-clause-shape c = (answers c).shape

pub integrate-requires-clause-cancel : goal.integrate-requires-clause-cancel
integrate-requires-clause-cancel c = (answers c).cancel

pub integrate-requires-clause-small : goal.integrate-requires-clause-small
integrate-requires-clause-small c =
    corrections_small c.in_ok-gradients.gradients.window c.in_ok-corrections.corrections (small_side c.args.scene.now.tiling c.window-window.result c.in_ok-gradients.gradients.window (sym c.in_ok-gradients.ensures.window) c.window-window.ensures.small) (answers c).small

pub returns-clause-good : goal.returns-clause-good
returns-clause-good c = λ mask told. (
    let s = c.args.scene.now in
    let v = c.in_ok-gradients.gradients.window in
    let same : v ≡ window_of s.tiling c.args.tile = c.in_ok-gradients.ensures.window ∙ c.window-window.ensures.value in
    let k = c.in_ok-corrections.corrections in
    good_result s (record { tile = c.args.tile; stamp = c.args.stamp; cycles = c.in_ok-cycles.cycles; faces = c.in_ok-corrections.faces }) mask k v same
    (record {
      pixels = subst (λ (w : Window). IsWindowOf s.tiling c.args.tile w) (sym c.in_ok-gradients.ensures.window) c.window-window.ensures.pixels;
      narrow = small_side s.tiling c.window-window.result v (sym c.in_ok-gradients.ensures.window) c.window-window.ensures.small;
      count = sym c.in_ok-cycles.cycles.ok.0 ∙ c.in_ok-cycles.ensures.count;
      answer = subst (λ (w : Window). AreCertifiedCorrections (raster_of s) mask c.args.tile w k c.in_ok-corrections.faces.items) (sym same) (c.in_ok-corrections.ensures mask told);
      departs = c.in_ok-cycles.ensures.departs;
      small = c.in_ok-cycles.ensures.bounded;
    }))
