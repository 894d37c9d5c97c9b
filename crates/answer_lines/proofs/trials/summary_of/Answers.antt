use Rattle.std.proofs.Common.{◌≡◌, ◌∙◌, ◌*◌, ℕ, subst, sym}
use Rattle.raster_model.specs.declared.session.Session.{Session}
use Rattle.raster_model.specs.Masks.{open_at}
use Rattle.raster_model.specs.Scene.{raster_of}
use Rattle.answer_lines.specs.TrialLines.{IsLeastCost, open_pixels_of, residues_of}
use Rattle.answer_lines.proofs.trials.summary_of.Goals as goal

pub returns-clause-pixels : goal.returns-clause-pixels
returns-clause-pixels c = subst (λ (s : Session). c.summary_with.result.pixels ≡ s.scene.phase.width * s.scene.phase.height) (c.deref.ensures ∙ c.session.ensures.value) c.summary_with.ensures.pixels

pub returns-clause-residues : goal.returns-clause-residues
returns-clause-residues c = subst (λ (s : Session). c.summary_with.result.residues ≡ residues_of (raster_of s.scene)) (c.deref.ensures ∙ c.session.ensures.value) c.summary_with.ensures.residues

pub returns-clause-unmasked : goal.returns-clause-unmasked
returns-clause-unmasked c = subst (λ (s : Session). c.summary_with.result.unmasked ≡ open_pixels_of s) (c.deref.ensures ∙ c.session.ensures.value) c.summary_with.ensures.unmasked

pub returns-clause-cost : goal.returns-clause-cost
returns-clause-cost c =
    let s = c.args.board.now.session in
    subst (λ (n : ℕ). IsLeastCost (raster_of s.scene) (open_at s.first_mask) n) (sym c.summary_with.ensures.cost) c.newest_cost-tile_cost.ensures
