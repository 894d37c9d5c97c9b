use Rattle.std.proofs.Common.{subst}
use Rattle.std.specs.Prelude.{IfOk}
use Rattle.raster_model.specs.Raster.{Raster}
use Rattle.raster_model.specs.Scene.{raster_of}
use Rattle.wrapped_gradient.specs.Gradients.{AreGradientsOf}
use Rattle.wrapped_gradient.proofs.GradientLemmas.{if_ok_follows, residues_are, retiled}
use Rattle.wrapped_gradient.proofs.gradients.Gradients.of.Goals as goal

pub returns-clause-differences : goal.returns-clause-differences
returns-clause-differences c =
    if_ok_follows (retiled (raster_of c.args.scene.now) (λ x y. 0) 1) c.over.result (subst (λ (r : Raster). IfOk c.over.result (λ made. AreGradientsOf r made)) c.sheet.ensures.raster c.over.ensures.differences)

pub returns-clause-residues : goal.returns-clause-residues
returns-clause-residues c = if_ok_follows (residues_are (raster_of c.args.scene.now)) c.over.result (returns-clause-differences c)
