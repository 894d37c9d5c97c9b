-- What is unwrapped of a sheet: for callers.
use Rattle.raster_model.specs.declared.sheet.Sheet.{Sheet}
use Rattle.raster_model.specs.MaskView.{MaskView}
use Rattle.grid_writer.proofs.FitSurfaces.{sheet_phases}
use Rattle.whole_text.specs.Told.{IsWholeTask, task_of}

pub sheet_is_task : (sheet : Sheet) (mask : MaskView) → IsWholeTask (task_of sheet mask)
sheet_is_task sheet mask = record { phases = sheet_phases sheet; steepness = sheet.terms.steepness }
