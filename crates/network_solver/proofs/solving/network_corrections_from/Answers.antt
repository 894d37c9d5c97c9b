use Rattle.std.proofs.lemmas.Result.{IfOk-weaker}
use Rattle.raster_model.specs.Sheets.{sheet_raster}
use Rattle.dual_grid.specs.Views.{IsGridOf}
use Rattle.network_solver.proofs.solving.network_corrections_from.Goals as goal

pub returns-in-Some : goal.returns-in-Some
returns-in-Some c =
    let r = sheet_raster c.args.sheet.now in
    let v = c.args.gradients.now.window in
    let u = c.args.unmasked.now in
    let grid : IsGridOf r v u c.in-Some.grid = rw c.in-Some.is at c.in_ok-grid.ensures.grid in
    IfOk-weaker c.finished.result _ _ (λ made answers mask told. answers r v u mask grid told) c.finished.ensures
