-- The surface that the text of a whole raster shows, with the faces that it tells.
use Rattle.whole_text.specs.Text.{WholeOf}
use Rattle.whole_text.specs.Told.{WholeTask}
use Rattle.whole_check.specs.Verdicts.{surface_told, whole_face}
use Rattle.certain_parts.specs.Margins.{Faced}

abbrev pub faced_told : WholeTask → WholeOf → Faced
faced_told task told = record { raster = task.raster; mask = task.mask; surface = surface_told task told; faces = whole_face task told }
