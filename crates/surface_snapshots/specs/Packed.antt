-- Regions that are found and packed before a surface is made of them.
use Rattle.std.specs.Prelude.{◌≡◌}
use Rattle.raster_model.specs.MaskView.{MaskView}
use Rattle.raster_model.specs.declared.tiling.Tiling.{Tiling}
use Rattle.seam_regions.specs.Regions.{AreRegionsOf}
use Rattle.surface_snapshots.specs.declared.packed.PackedRegions.{PackedRegions}

-- they are the regions of a mask in a tiling
pub record ArePackedRegionsOf (g : Tiling) (mask : MaskView) (packed : PackedRegions) : Type 0 where
  pub tiling : packed.tiling ≡ g
  pub regions : AreRegionsOf g mask packed.regions
