use Rattle.std.proofs.Common.{◌∙◌, ℕ, ap₂}
use Rattle.raster_model.specs.Masks.{open_at}
use Rattle.answer_lines.specs.TrialLines.{count_grid}
use Rattle.answer_lines.proofs.trials.summary_with.Goals as goal

pub returns-clause-unmasked : goal.returns-clause-unmasked
returns-clause-unmasked c =
    let s = c.args.session.now in
    c.count_open.ensures ∙ ap₂ (λ (width height : ℕ). count_grid width height (open_at s.first_mask)) s.same_size.0 s.same_size.1
