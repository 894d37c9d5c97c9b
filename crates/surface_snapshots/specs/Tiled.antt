-- Regions that are kept tile by tile, as definitions read them, and the mask that regions tell. Clauses cite `regions_in` only through `parts_of`, which unfolds into it.
use Rattle.std.specs.Prelude.{ℕ, Bool, List, map, nat_lt}
use Rattle.raster_model.specs.MaskView.{MaskView}
use Rattle.seam_regions.specs.RegionsView.{RegionsView}
use Rattle.surface_snapshots.specs.declared.tiled.TiledRegions.{TiledRegions}
use Rattle.surface_snapshots.specs.Runs.{labels_told, runs_of}

abbrev pub regions_in : TiledRegions → RegionsView
regions_in r = record { width = r.tiling.width; height = r.tiling.height; labels = labels_told r.tiling r.labels.items (map runs_of r.tiles.items); count = r.count }

-- the mask that regions tell: a pixel is open exactly if its label is a region's number
unfoldable pub pixels_told : List ℕ → ℕ → List Bool
pixels_told labels count = map (λ l. nat_lt l count) labels

abbrev pub mask_told : RegionsView → MaskView
mask_told regions = record { width = regions.width; height = regions.height; unmasked = pixels_told regions.labels regions.count }
