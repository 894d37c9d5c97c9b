-- A result for each tile.
use Rattle.std.specs.Prelude.{◌≡◌, ℕ, ℤ, pos, List, length, map, slice_get, Option, Some, None}
use Rattle.std.specs.Arc.{arc_value}
use Rattle.std.specs.declared.alloc.Global.{Global}
use Rattle.std.specs.declared.sync.Arc.{Arc}
use Rattle.raster_model.specs.declared.scene.Scene.{Scene}
use Rattle.raster_model.specs.declared.tiling.Tiling.{Tiling}
use Rattle.raster_model.specs.Sums.{Field}
use Rattle.raster_model.specs.Tiles.{tile_at, tiles_of}
use Rattle.certificates.specs.declared.results.TileResult.{TileResult}
use Rattle.certificates.specs.Results.{listed_cycles, window_in}

-- a set of results as contracts see it: the tiling, and the results in the order of the tiles
pub record TileSetView : Type 0 where
  pub tiling : Tiling
  pub results : List TileResult

-- the results that are shared
abbrev pub shared_results : List (Arc TileResult Global) → List TileResult
shared_results results = map arc_value results

-- there is one result for each tile, at the tile's number
pub record HasOneForEach (g : Tiling) (results : List TileResult) : Type 0 where
  pub count : length results ≡ tiles_of g
  pub own : (t : ℕ) (k : TileResult) → slice_get results t ≡ Some k → k.tile ≡ t

-- the cycles that a result has at a pixel of its tile; and at each pixel, those of the result of the pixel's tile
abbrev pub cycles_of : Scene → Option TileResult → Field ℤ
cycles_of scene (Some k) x y = listed_cycles (window_in scene k) k.cycles.items x y
cycles_of scene None x y = pos 0

unfoldable pub solved_cycles : Scene → List TileResult → Field ℤ
solved_cycles scene results x y = cycles_of scene (slice_get results (tile_at scene.tiling x y)) x y
