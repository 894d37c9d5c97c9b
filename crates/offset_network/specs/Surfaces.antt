-- The surface of the results of tiles and of offsets of the regions, and what makes these good (Chen and Zebker 2002).
use Rattle.std.specs.Prelude.{◌≡◌, ℕ, ◌<◌, pos, Bool, IfOk, Result, Some, length, slice_get, slice_index_or}
use Rattle.std.specs.declared.alloc.AllocError.{AllocError}
use Rattle.raster_model.specs.declared.scene.Scene.{Scene}
use Rattle.raster_model.specs.MaskView.{MaskView}
use Rattle.raster_model.specs.Masks.{open_at}
use Rattle.raster_model.specs.Scene.{raster_of}
use Rattle.raster_model.specs.Sums.{Field}
use Rattle.raster_model.specs.Tiles.{tiles_of}
use Rattle.certificates.specs.declared.results.SeamResult.{SeamResult}
use Rattle.certificates.specs.declared.results.TileResult.{TileResult}
use Rattle.certificates.specs.Results.{IsGoodTile}
use Rattle.certificates.specs.SeamVerdicts.{IsGoodAtSeams}
use Rattle.certificates.specs.TileSets.{TileSetView, solved_cycles}
use Rattle.seam_regions.specs.Offsets.{IsNear}
use Rattle.seam_regions.specs.Regions.{AreRegionsOf, shifted_by}
use Rattle.seam_regions.specs.RegionsView.{RegionsView}

-- the set has a good result for each tile of the scene
pub record IsGoodTileSet (scene : Scene) (mask : Field Bool) (tiles : TileSetView) : Type 0 where
  pub tiling : tiles.tiling ≡ scene.tiling
  pub each : (t : ℕ) (k : TileResult) → t < tiles_of scene.tiling → slice_get tiles.results t ≡ Some k → IsGoodTile scene mask k

-- what offsets are found of: a mask of the scene's size, the regions of both, and a good result for each tile
pub record AreSolvedTiles (scene : Scene) (mask : MaskView) (regions : RegionsView) (tiles : TileSetView) : Type 0 where
  pub same_size : (mask.width ≡ scene.phase.width) × (mask.height ≡ scene.phase.height)
  pub labelled : AreRegionsOf scene.tiling mask regions
  pub solved : IsGoodTileSet scene (open_at mask) tiles

-- a good result: it has one offset from -2^46 to 2^46 for each region, and the surface with the offsets meets the anchor and is certified at the seams
pub record IsGoodSeams (scene : Scene) (mask : MaskView) (regions : RegionsView) (tiles : TileSetView) (k : SeamResult) : Type 0 where
  pub count : length k.offsets.items ≡ regions.count
  pub in_range : (v : ℕ) → v < regions.count → IsNear (slice_index_or k.offsets.items v (pos 0))
  pub certified : IsGoodAtSeams (raster_of scene) (open_at mask) (shifted_by regions k.offsets.items (solved_cycles scene tiles.results)) k.flows.items

-- what was found for a revision: offsets that are good, unless memory ran out
pub record AreOffsetsAt (scene : Scene) (mask : MaskView) (regions : RegionsView) (tiles : TileSetView) (now : ℕ) (found : Result SeamResult AllocError) : Type 0 where
  pub revision : IfOk found (λ solved. solved.revision ≡ now)
  pub good : IfOk found (IsGoodSeams scene mask regions tiles)
