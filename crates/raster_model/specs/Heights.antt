-- What is known of heights.
use Rattle.std.specs.Prelude.{◌≡◌, ℕ, ◌<◌, Bool, IsTrue}
use Rattle.raster_model.specs.declared.edge.Edge.{Edge}
use Rattle.raster_model.specs.Sums.{Field, at_edge_start, at_edge_end}
use Rattle.raster_model.specs.Raster.{Raster, has_open_ends}

-- every open pixel is known; every open pixel of tile t is; both ends of an edge are, where they are open
abbrev pub KnowsOpen : Raster → Field Bool → Field Bool → Type 0
KnowsOpen raster mask knows = (x y : ℕ) → x < raster.width → y < raster.height → IsTrue (mask x y) → IsTrue (knows x y)

abbrev pub KnowsOpenOf : Raster → Field Bool → ℕ → Field Bool → Type 0
KnowsOpenOf raster mask tile knows = (x y : ℕ) → x < raster.width → y < raster.height → raster.tile x y ≡ tile → IsTrue (mask x y) → IsTrue (knows x y)

abbrev pub KnowsEnds : Field Bool → Field Bool → Edge → Type 0
KnowsEnds mask knows edge = IsTrue (has_open_ends mask edge) → IsTrue (at_edge_start knows edge) × IsTrue (at_edge_end knows edge)
