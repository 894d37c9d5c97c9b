-- A sheet's raster with the tiles of a tiling, or as one tile.
use Rattle.std.specs.Prelude.{ℕ}
use Rattle.raster_model.specs.declared.sheet.Sheet.{Sheet}
use Rattle.raster_model.specs.Raster.{Raster}
use Rattle.raster_model.specs.Sheets.{sheet_raster}
use Rattle.raster_model.specs.Sums.{Field}
use Rattle.raster_model.specs.Tiles.{tile_at, tiles_of}
use Rattle.raster_model.specs.Tilings.{tiled_by}
use Rattle.certificates.specs.declared.cut.Cut.{Cut}
use Rattle.certificates.specs.declared.cut.Cut.TheVariants.{Tiles, Whole}

-- the tile of a pixel, and how many tiles there are
abbrev pub tile_in : Cut → Field ℕ
tile_in (Tiles tiling) = tile_at tiling
tile_in Whole = λ x y. 0

abbrev pub count_in : Cut → ℕ
count_in (Tiles tiling) = tiles_of tiling
count_in Whole = 1

-- the raster with these tiles
abbrev pub raster_cut : Sheet → Cut → Raster
raster_cut sheet cut = tiled_by (sheet_raster sheet) (tile_in cut) (count_in cut)
