-- The grid of a surface.
use Rattle.std.specs.Prelude.{ℕ, ℤ, List, Option, Some, None}
use Rattle.raster_model.specs.Sums.{Field}
use Rattle.surface_snapshots.specs.Parts.{Parts, value_in}
use Rattle.grid_writer.specs.Grids.{GridOf, text_of_grid}
use Rattle.grid_writer.specs.Values.{no_data}

-- what stands for the value at a pixel: the NODATA value where it has none
abbrev pub shown_value : Option ℤ → ℤ
shown_value (Some value) = value
shown_value None = no_data

-- the values of a surface as its grid shows them, and its grid
abbrev pub shown_in : Parts → Field ℤ
shown_in parts x y = shown_value (value_in parts x y)

abbrev pub shown_grid : Parts → GridOf
shown_grid parts = record { width = parts.session.scene.phase.width; height = parts.session.scene.phase.height; values = shown_in parts }

abbrev pub text_of : Parts → List ℕ
text_of parts = text_of_grid (shown_grid parts)
