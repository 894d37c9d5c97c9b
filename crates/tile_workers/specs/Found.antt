-- Regions that may be packed.
use Rattle.raster_model.specs.MaskView.{MaskView}
use Rattle.raster_model.specs.declared.tiling.Tiling.{Tiling}
use Rattle.seam_regions.specs.Regions.{AreRegionsOf}
use Rattle.seam_regions.specs.RegionsView.{RegionsView}
use Rattle.surface_snapshots.specs.Packed.{ArePackedRegionsOf}
use Rattle.tile_workers.specs.declared.early.FoundRegions.{FoundRegions}
use Rattle.tile_workers.specs.declared.early.FoundRegions.TheVariants.{Packed, Plain}

abbrev pub regions_found : FoundRegions → RegionsView
regions_found (Packed packed plan) = packed.regions
regions_found (Plain regions) = regions

-- they are the regions of a mask in a tiling
abbrev pub AreFoundOf : Tiling → MaskView → FoundRegions → Type 0
AreFoundOf tiling mask (Packed packed plan) = ArePackedRegionsOf tiling mask packed
AreFoundOf tiling mask (Plain regions) = AreRegionsOf tiling mask regions
