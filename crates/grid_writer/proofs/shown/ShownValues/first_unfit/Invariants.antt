use Rattle.raster_model.specs.Masks.{open_at}
use Rattle.raster_model.specs.Sheets.{sheet_raster}
use Rattle.grid_writer.specs.Grids.{value_at}
use Rattle.grid_writer.specs.Fits.{FitInRows}
use Rattle.grid_writer.proofs.shown.ShownValues.first_unfit.Given as goal

abbrev pub invariant-loop-y : goal.invariant-loop-y
invariant-loop-y l = FitInRows (sheet_raster l.self.sheet.now) (open_at l.self.mask.now) (value_at l.self.sheet.now.phase.now.width l.self.values.now) l.y
