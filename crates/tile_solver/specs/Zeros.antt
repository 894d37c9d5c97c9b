-- What answers a tile without a residue. These are helpers' words, which no clause of a public function cites.
use Rattle.std.specs.Prelude.{◌≡◌, ℕ, ◌<◌, Bool, ℤ, List}
use Rattle.raster_model.specs.declared.scene.Scene.{Scene}
use Rattle.raster_model.specs.Scene.{raster_of}
use Rattle.raster_model.specs.Sums.{Field}
use Rattle.raster_model.specs.Tiles.{tiles_of, window_of}
use Rattle.wrapped_gradient.specs.declared.corrections.Corrections.{Corrections}
use Rattle.wrapped_gradient.specs.Gradients.{AreGradientsOf, HasNoResidue}
use Rattle.wrapped_gradient.specs.GradientsView.{GradientsView}
use Rattle.dual_grid.specs.Answers.{AreCertifiedCorrections}

-- these are the gradients of tile t of the scene, and no cell of it has a residue
pub record IsWithoutResidue (scene : Scene) (t : ℕ) (gradients : GradientsView) : Type 0 where
  pub tile : t < tiles_of scene.tiling
  pub window : gradients.window ≡ window_of scene.tiling t
  pub differences : AreGradientsOf (raster_of scene) gradients
  pub none : HasNoResidue gradients

-- corrections and faces that are an answer, under any mask, for each tile without a residue of which these are the gradients
abbrev pub AnswersWithoutResidue : GradientsView → Corrections → List ℤ → Type 0
AnswersWithoutResidue gradients corrections faces = (scene : Scene) (t : ℕ) (mask : Field Bool) → IsWithoutResidue scene t gradients → AreCertifiedCorrections (raster_of scene) mask t gradients.window corrections faces
