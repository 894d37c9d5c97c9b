-- A scene's sheet with the scene's tiles has its raster.
use Rattle.std.proofs.Common.{◌≡◌, ap}
use Rattle.raster_model.specs.declared.scene.Scene.{Scene}
use Rattle.raster_model.specs.declared.sheet.Sheet.{Sheet}
use Rattle.raster_model.specs.Raster.{Raster}
use Rattle.raster_model.specs.Scene.{raster_of}
use Rattle.raster_model.specs.Sheets.{sheet_raster}
use Rattle.raster_model.specs.Tiles.{tile_at, tiles_of}
use Rattle.raster_model.specs.Tilings.{tiled_by}
use Rattle.raster_model.specs.Whole.{whole_of}
use Rattle.certificates.specs.declared.cut.Cut.TheVariants.{Tiles}
use Rattle.certificates.specs.Cuts.{raster_cut}

pub cut_is : (s : Scene) (sheet : Sheet) → sheet_raster sheet ≡ whole_of (raster_of s) → raster_cut sheet (Tiles s.tiling) ≡ raster_of s
cut_is s sheet e = ap (λ (r : Raster). tiled_by r (tile_at s.tiling) (tiles_of s.tiling)) e
