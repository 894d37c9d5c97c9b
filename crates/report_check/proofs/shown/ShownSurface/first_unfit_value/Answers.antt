use Rattle.std.proofs.Common.{◌≡◌, ◌∙◌, ℕ, ap, subst, sym}
use Rattle.std.specs.Prelude.{IfNone, IfSome}
use Rattle.grid_writer.specs.Fits.{AllValuesFit, IsFirstUnfitValue}
use Rattle.grid_writer.specs.Grids.{value_at}
use Rattle.raster_model.specs.Raster.{Raster}
use Rattle.raster_model.specs.Sheets.{sheet_raster}
use Rattle.raster_model.specs.Whole.{whole_of}
use Rattle.report_check.specs.Shown.{open_shown, raster_shown, told_shown}
use Rattle.report_check.proofs.ShownLemmas.{all_fit, first_unfit, if_none_weaker, if_some_weaker}
use Rattle.report_check.proofs.shown.ShownSurface.first_unfit_value.Goals as goal

pub returns-clause-found : goal.returns-clause-found
returns-clause-found c =
    let s = c.args.self.now in
    let e = c.values.ensures in
    let width = ap (λ (r : Raster). r.width) s.raster ∙ sym s.grid_size.0 in
    let found : IfSome c.first_unfit.result (λ pixel. IsFirstUnfitValue (whole_of (raster_shown s)) (open_shown s) (told_shown s).values pixel.0 pixel.1) = rw (e.sheet, e.mask, e.values, s.raster, width) at c.first_unfit.ensures.found in
    if_some_weaker c.first_unfit.result (λ pixel. first_unfit (raster_shown s) (open_shown s) (told_shown s).values pixel.0 pixel.1) found

pub returns-clause-none : goal.returns-clause-none
returns-clause-none c =
    let s = c.args.self.now in
    let e = c.values.ensures in
    let items = s.told.now.grid.values.items in
    let fit : Raster → ℕ → Type 0 = λ r w. IfNone c.first_unfit.result (AllValuesFit r (open_shown s) (value_at w items)) in
    let sheet : fit (sheet_raster s.sheet.now) s.sheet.now.phase.now.width = rw (e.sheet, e.mask, e.values) at c.first_unfit.ensures.none in
    let whole : fit (whole_of (raster_shown s)) s.scene.now.phase.width = subst (λ (r : Raster). fit r r.width) s.raster sheet in
    let none : fit (whole_of (raster_shown s)) s.told.now.grid.width = subst (fit (whole_of (raster_shown s))) (sym s.grid_size.0) whole in
    if_none_weaker c.first_unfit.result (all_fit (raster_shown s) (open_shown s) (told_shown s).values) none
