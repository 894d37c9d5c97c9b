-- A raster with other tiles than a scene's.
use Rattle.std.specs.Prelude.{ℕ, ◌<◌}
use Rattle.raster_model.specs.declared.scene.Scene.{Scene}
use Rattle.raster_model.specs.Scene.{raster_of}
use Rattle.raster_model.specs.Sums.{Field}
use Rattle.raster_model.specs.Raster.{Raster}

-- the raster with these numbers of tiles, so many in all
abbrev pub tiled_by : Raster → Field ℕ → ℕ → Raster
tiled_by raster tile count = record { width = raster.width; height = raster.height; phase = raster.phase; slope = raster.slope; weight = raster.weight; tile = tile; tile_count = count; steep = raster.steep }

-- each pixel lies in a tile
abbrev pub HasTiles : Raster → Type 0
HasTiles raster = (x y : ℕ) → x < raster.width → y < raster.height → raster.tile x y < raster.tile_count

-- each pixel of a scene lies in one of its tiles
abbrev pub ScenesHaveTiles : Type 0
ScenesHaveTiles = (scene : Scene) → HasTiles (raster_of scene)
