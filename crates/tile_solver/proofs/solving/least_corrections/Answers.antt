use Rattle.std.proofs.Common.{◌≡◌, subst, sym, false, Bool, List, ℤ}
use Rattle.std.specs.Prelude.{Option, Some, None, IfNone}
use Rattle.std.specs.Option.{is_some}
use Rattle.std.proofs.lemmas.Result.{IfOk-weaker}
use Rattle.raster_model.specs.declared.tiling.Window.{Window}
use Rattle.raster_model.specs.declared.scene.Scene.{Scene}
use Rattle.raster_model.specs.Raster.{Raster}
use Rattle.raster_model.specs.Scene.{raster_of}
use Rattle.raster_model.specs.Sums.{Field}
use Rattle.raster_model.specs.Whole.{whole_of}
use Rattle.wrapped_gradient.specs.declared.corrections.Corrections.{Corrections}
use Rattle.raster_model.specs.Tiles.{window_of}
use Rattle.dual_grid.specs.Answers.{AreCertifiedCorrections, AreCertifiedOver}
use Rattle.dual_grid.specs.Starts.{TellsMask}
use Rattle.wrapped_gradient.specs.Gradients.{AreGradientsOf, HasNoResidue}
use Rattle.dual_grid.proofs.CallerLemmas.{scene_answer}
use Rattle.surface_integration.proofs.CycleLemmas.{gradients_tiled}
use Rattle.tile_solver.specs.Zeros.{IsWithoutResidue}
use Rattle.tile_solver.proofs.solving.least_corrections.Goals as goal

-- what holds where there is none
where_none : {T : Type 0} (o : Option T) (P : Type 0) → is_some o ≡ false → IfNone o P → P
where_none (Some t) P e h = absurd (cc e)
where_none None P e h = h

pub returns-then-is_none : goal.returns-then-is_none
returns-then-is_none c =
    let s = c.args.scene.now in
    let g = c.args.gradients.now in
    let without : IsWithoutResidue s c.args.tile g = record {
      tile = c.requires.tile;
      window = c.requires.window;
      differences = c.requires.gradients;
      none = where_none c.first_residue.result (HasNoResidue g) (c.if-is_none.ensures {u = tt}) c.first_residue.ensures.none;
    } in
    IfOk-weaker c.no_corrections.result _ _
    (λ made answers mask told. subst (λ (v : Window). AreCertifiedCorrections (raster_of s) mask c.args.tile v made.0 made.1.items) c.requires.window (answers s c.args.tile mask without))
    c.no_corrections.ensures

-- an answer of the scene's sheet is one of the scene
over_the_scene : (s : Scene) (r : Raster) → r ≡ whole_of (raster_of s) → (mask : Field Bool) (u v : Window) (k : Corrections) (faces : List ℤ) → u ≡ v → AreCertifiedOver r mask u k faces → AreCertifiedOver (raster_of s) mask v k faces
over_the_scene s r whole mask u v k faces same answer = subst (λ (w : Window). AreCertifiedOver (raster_of s) mask w k faces) same (subst (λ (other : Raster). AreCertifiedOver other mask u k faces) whole answer)

pub network_corrections-requires-clause-gradients : goal.network_corrections-requires-clause-gradients
network_corrections-requires-clause-gradients c = subst (λ (r : Raster). AreGradientsOf r c.args.gradients.now) (sym c.sheet.ensures.raster) (gradients_tiled (raster_of c.args.scene.now) (λ x y. 0) 1 c.args.gradients.now c.requires.gradients)

pub returns : goal.returns
returns c =
    let s = c.args.scene.now in
    let t = c.args.tile in
    IfOk-weaker c.network_corrections.result _ _
    (λ made answers mask told. scene_answer s mask t made.0 made.1.items c.requires.tile
    (over_the_scene s _ c.sheet.ensures.raster mask _ _ made.0 made.1.items c.requires.window (answers mask (subst (λ (v : Window). TellsMask v c.args.unmasked.now mask) (sym c.requires.window) told))))
    c.network_corrections.ensures

pub returns-in-Some : goal.returns-in-Some
returns-in-Some c = λ mask told. (
    let s = c.args.scene.now in
    let t = c.args.tile in
    scene_answer s mask t _ _ c.requires.tile ((rw c.in-Some.is at c.in_ok-answer.ensures) (raster_of s) (window_of s.tiling t) c.args.unmasked.now mask c.in_ok-problem.ensures told))
