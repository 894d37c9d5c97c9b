use Rattle.raster_model.specs.Masks.{open_at}
use Rattle.raster_model.specs.Sheets.{sheet_raster}
use Rattle.grid_writer.specs.Grids.{value_at}
use Rattle.grid_writer.specs.Fits.{FitInRow}
use Rattle.grid_writer.proofs.shown.ShownValues.first_unfit_in.Given as goal

abbrev pub invariant-loop-x : goal.invariant-loop-x
invariant-loop-x l = FitInRow (sheet_raster l.self.sheet.now) (open_at l.self.mask.now) (value_at l.self.sheet.now.phase.now.width l.self.values.now) l.y l.x
