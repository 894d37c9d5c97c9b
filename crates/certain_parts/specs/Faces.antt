-- A surface of whole cycles above a raster's phase, with a face for each cell of the whole raster in row order.
use Rattle.std.specs.Prelude.{ℤ, Bool, List}
use Rattle.raster_model.specs.Cells.{face_at}
use Rattle.raster_model.specs.Certificates.{faces_of_tile}
use Rattle.raster_model.specs.Raster.{Raster, lifted}
use Rattle.raster_model.specs.Sums.{Field}
use Rattle.raster_model.specs.Whole.{whole_of}
use Rattle.certain_parts.specs.Margins.{Faced}

-- the face of a cell, and 0 where there is no cell
abbrev pub face_over : Raster → List ℤ → Field ℤ
face_over raster faces = faces_of_tile (whole_of raster) 0 (face_at (whole_of raster) 0 faces)

abbrev pub faced_by : Raster → Field Bool → Field ℤ → List ℤ → Faced
faced_by raster mask cycles faces = record { raster = raster; mask = mask; surface = lifted raster cycles; faces = face_at (whole_of raster) 0 faces }
