-- The flood and its numbers, of the pixels of a tiling's raster under a mask, and the pieces of rows that it passes. No public clause cites this file.
use Rattle.std.specs.Prelude.{◌≡◌, ℕ, ◌+◌, ◌-◌, ◌%◌, ◌<◌, ◌≤◌, pos, Bool, true, false, ◌==◌, List}
use Rattle.raster_model.specs.declared.tiling.Tiling.{Tiling}
use Rattle.raster_model.specs.MaskView.{MaskView}
use Rattle.raster_model.specs.Masks.{IsSpanOf}
use Rattle.raster_model.specs.Sums.{Field}
use Rattle.raster_model.specs.Raster.{Raster}
use Rattle.raster_model.specs.Tiles.{tiles_of, tile_at}
use Rattle.joined_cells.specs.Flood.{IsFlood, IsNumbered}
use Rattle.joined_cells.specs.Joining.{Joining, tiles_joined}
use Rattle.seam_regions.specs.declared.pieces.Piece.{Piece}

-- a raster with a tiling's size and tiles
abbrev pub tiled : Tiling → Raster
tiled tiling = record { width = tiling.width; height = tiling.height; phase = λ x y. 0; slope = λ down. pos 0; weight = λ e. 0; tile = tile_at tiling; tile_count = tiles_of tiling; steep = 1 }

-- its inner edges join
abbrev pub tiling_joined : Tiling → Field Bool → Joining
tiling_joined tiling mask = tiles_joined (tiled tiling) mask

abbrev pub HasJoined : Tiling → Field Bool → ℕ → List ℕ → Type 0
HasJoined tiling mask k parents = IsFlood (tiling_joined tiling mask) k parents

abbrev pub HasNumbered : Tiling → Field Bool → ℕ → ℕ → List ℕ → Type 0
HasNumbered tiling mask k count labels = IsNumbered (tiling_joined tiling mask) k count labels

-- the piece is the part of a row that lies in one tile
pub record IsPiece (tiling : Tiling) (piece : Piece) : Type 0 where
  pub row : piece.y < tiling.height
  pub across : (piece.first ≤ piece.last) × (piece.last < tiling.width)
  pub begins : piece.first % tiling.side ≡ 0
  pub short : piece.last < piece.first + tiling.side
  pub top : piece.top ≡ (piece.y % tiling.side == 0)

-- the pixels of the piece are open, and so are those of its tile right above them
pub record IsOpenPiece (view : MaskView) (piece : Piece) : Type 0 where
  pub own : IsSpanOf view piece.y piece.first piece.last true
  pub upper : piece.top ≡ false → IsSpanOf view (piece.y - 1) piece.first piece.last true
