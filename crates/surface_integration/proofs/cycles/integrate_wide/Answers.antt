use Rattle.std.proofs.Common.{◌∙◌}
use Rattle.std.proofs.lemmas.Result.{IfOk-weaker}
use Rattle.raster_model.specs.Sheets.{sheet_raster}
use Rattle.surface_integration.specs.Cycles.{cycles_at}
use Rattle.surface_integration.proofs.CycleLemmas.{kept_plainly}
use Rattle.surface_integration.proofs.RowLemmas.{wide_room, wide_within}
use Rattle.surface_integration.proofs.cycles.integrate_wide.Goals as goal

pub integrated-requires-clause-room : goal.integrated-requires-clause-room
integrated-requires-clause-room c = wide_room c.args.sheet.now c.args.gradients.now c.args.corrections.now c.requires.gradients c.requires.small

pub returns-clause-count : goal.returns-clause-count
returns-clause-count c = IfOk-weaker c.integrated.result _ _ (λ cycles is. cycles.ok.0 ∙ (kept_plainly (sheet_raster c.args.sheet.now) c.args.gradients.now.window c.args.corrections.now cycles.items is).count) c.integrated.ensures

pub returns-clause-first : goal.returns-clause-first
returns-clause-first c = IfOk-weaker c.integrated.result _ _ (λ cycles is. (kept_plainly (sheet_raster c.args.sheet.now) c.args.gradients.now.window c.args.corrections.now cycles.items is).first) c.integrated.ensures

pub returns-clause-departs : goal.returns-clause-departs
returns-clause-departs c = IfOk-weaker c.integrated.result _ _ (λ cycles is. (kept_plainly (sheet_raster c.args.sheet.now) c.args.gradients.now.window c.args.corrections.now cycles.items is).departs) c.integrated.ensures

pub returns-clause-bounded : goal.returns-clause-bounded
returns-clause-bounded c = IfOk-weaker c.integrated.result _ _ (λ cycles is. (kept_plainly (sheet_raster c.args.sheet.now) c.args.gradients.now.window c.args.corrections.now cycles.items is).bounded) c.integrated.ensures

pub returns-clause-within : goal.returns-clause-within
returns-clause-within c =
    IfOk-weaker c.integrated.result _ _ (λ cycles is. wide_within c.args.sheet.now c.args.gradients.now c.args.corrections.now (cycles_at c.args.gradients.now.window cycles.items) c.requires.gradients c.requires.small (kept_plainly (sheet_raster c.args.sheet.now) c.args.gradients.now.window c.args.corrections.now cycles.items is).bounded) c.integrated.ensures
