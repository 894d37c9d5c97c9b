-- Words of the code that reads faces. No clause of a public function cites this file.
use Rattle.std.specs.Prelude.{◌≡◌, ℤ, List, length}
use Rattle.raster_model.specs.Cells.{cell_count}
use Rattle.raster_model.specs.Raster.{Raster}
use Rattle.raster_model.specs.Whole.{whole_of}

-- a list has one face for each cell of the whole raster
abbrev pub HasFaces : Raster → List ℤ → Type 0
HasFaces raster faces = length faces ≡ cell_count (whole_of raster) 0
