use Rattle.std.proofs.Common.{arith, subst, sym, ◌∙◌}
use Rattle.std.proofs.lemmas.Result.{IfOk-weaker}
use Rattle.raster_model.specs.Raster.{Raster}
use Rattle.raster_model.specs.Scene.{raster_of}
use Rattle.wrapped_gradient.specs.Corrections.{CancelResidues}
use Rattle.wrapped_gradient.specs.Gradients.{AreGradientsOf}
use Rattle.surface_integration.proofs.CycleLemmas.{gradients_tiled, kept_retiled}
use Rattle.surface_integration.proofs.RiseLemmas.{greatest_small}
use Rattle.surface_integration.proofs.cycles.integrate.Goals as goal

pub integrated-requires-clause-gradients : goal.integrated-requires-clause-gradients
integrated-requires-clause-gradients c = subst (λ (r : Raster). AreGradientsOf r c.args.gradients.now) (sym c.sheet.ensures.raster) (gradients_tiled (raster_of c.args.scene.now) (λ x y. 0) 1 c.args.gradients.now c.requires.gradients)

pub integrated-requires-clause-cancel : goal.integrated-requires-clause-cancel
integrated-requires-clause-cancel c = subst (λ (r : Raster). CancelResidues r c.args.gradients.now.window c.args.corrections.now) (sym c.sheet.ensures.raster) c.requires.cancel

pub integrated-requires-clause-small : goal.integrated-requires-clause-small
integrated-requires-clause-small c = let m = greatest_small c.args.gradients.now.window c.args.corrections.now c.requires.small in omega (arith, m)

pub integrated-requires-clause-room : goal.integrated-requires-clause-room
integrated-requires-clause-room c = c.requires.small

pub returns-clause-count : goal.returns-clause-count
returns-clause-count c = IfOk-weaker c.integrated.result _ _ (λ cycles is. cycles.ok.0 ∙ (kept_retiled (raster_of c.args.scene.now) (λ x y. 0) 1 _ c.args.gradients.now.window c.args.corrections.now cycles.items c.sheet.ensures.raster is).count) c.integrated.ensures

pub returns-clause-first : goal.returns-clause-first
returns-clause-first c = IfOk-weaker c.integrated.result _ _ (λ cycles is. (kept_retiled (raster_of c.args.scene.now) (λ x y. 0) 1 _ c.args.gradients.now.window c.args.corrections.now cycles.items c.sheet.ensures.raster is).first) c.integrated.ensures

pub returns-clause-departs : goal.returns-clause-departs
returns-clause-departs c = IfOk-weaker c.integrated.result _ _ (λ cycles is. (kept_retiled (raster_of c.args.scene.now) (λ x y. 0) 1 _ c.args.gradients.now.window c.args.corrections.now cycles.items c.sheet.ensures.raster is).departs) c.integrated.ensures

pub returns-clause-bounded : goal.returns-clause-bounded
returns-clause-bounded c = IfOk-weaker c.integrated.result _ _ (λ cycles is. (kept_retiled (raster_of c.args.scene.now) (λ x y. 0) 1 _ c.args.gradients.now.window c.args.corrections.now cycles.items c.sheet.ensures.raster is).bounded) c.integrated.ensures
