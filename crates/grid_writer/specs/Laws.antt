-- Laws of grids.
use Rattle.surface_snapshots.specs.Parts.{Parts}
use Rattle.grid_writer.specs.Grids.{IsGrid, IsGridText}
use Rattle.grid_writer.specs.Shown.{shown_grid, text_of}

-- what is written of a surface whose values fit is the text of a grid
abbrev pub WrittenGridsAreGrids : Type 0
WrittenGridsAreGrids = (parts : Parts) → IsGrid (shown_grid parts) → IsGridText (text_of parts)
