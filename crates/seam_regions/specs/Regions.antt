-- The numbered regions of a tiled raster under a mask (Chen and Zebker 2002, tiles that do not overlap).
use Rattle.raster_model.specs.declared.limits.TheConstants.{MAX_REGIONS}
use Rattle.std.specs.Prelude.{◌≡◌, ℕ, ◌+◌, ◌*◌, ◌<◌, ◌≤◌, ◌==◌, ℤ, pos, ◌+ℤ◌, List, Option, Some, None, if◌then◌else◌, slice_index, slice_index_or}
use Rattle.raster_model.specs.declared.tiling.Tiling.{Tiling}
use Rattle.raster_model.specs.MaskView.{MaskView}
use Rattle.raster_model.specs.Masks.{open_at}
use Rattle.raster_model.specs.Raster.{Raster}
use Rattle.raster_model.specs.Seams.{AreRegions}
use Rattle.raster_model.specs.Sums.{Field}
use Rattle.raster_model.specs.Tiles.{tile_at}
use Rattle.joined_cells.specs.Flood.{no_label}
use Rattle.seam_regions.specs.RegionsView.{RegionsView}

-- what stands in place of a label at a masked pixel
abbrev pub masked_label : ℕ
masked_label = no_label

-- the label of a pixel
abbrev pub region_label : RegionsView → Field ℕ
region_label v x y = slice_index v.labels (y * v.width + x)

-- the number of a pixel's region, and None if it is masked
abbrev pub region_at : RegionsView → Field (Option ℕ)
region_at v x y = if region_label v x y == masked_label then None else Some (region_label v x y)

-- the offset of a pixel's region, and cycles with this offset added
unfoldable pub offset_at : RegionsView → List ℤ → Field ℤ
offset_at v offsets x y = slice_index_or offsets (region_label v x y) (pos 0)

abbrev pub shifted_by : RegionsView → List ℤ → Field ℤ → Field ℤ
shifted_by v offsets cycles x y = cycles x y +ℤ offset_at v offsets x y

-- the raster has the tiling's size and tiles
pub record IsTiledBy (raster : Raster) (tiling : Tiling) : Type 0 where
  pub width : raster.width ≡ tiling.width
  pub height : raster.height ≡ tiling.height
  pub tile : raster.tile ≡ tile_at tiling

-- the most regions that there can be: 3 * 2 ^ 20
abbrev pub most_regions : ℕ
most_regions = MAX_REGIONS

-- the labels are the numbers of the regions under the mask, in each raster with those tiles, and masked pixels have no region
pub record AreRegionsOf (tiling : Tiling) (mask : MaskView) (v : RegionsView) : Type 0 where
  pub width : v.width ≡ tiling.width
  pub height : v.height ≡ tiling.height
  pub regions : (r : Raster) → IsTiledBy r tiling → AreRegions r (open_at mask) (region_label v) v.count
  pub told : (x y : ℕ) → x < tiling.width → y < tiling.height → region_at v x y ≡ (if open_at mask x y then Some (region_label v x y) else None)
  pub few : v.count ≤ most_regions
