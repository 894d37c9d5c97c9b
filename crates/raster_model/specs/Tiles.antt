-- Which pixels lie in which tile.
use Rattle.std.specs.Prelude.{◌≡◌, ℕ, ◌+◌, ◌-◌, ◌*◌, ◌/◌, ◌%◌, min, ◌<◌, ◌≤◌, ◌↔◌}
use Rattle.raster_model.specs.declared.tiling.Tiling.{Tiling}
use Rattle.raster_model.specs.declared.tiling.Window.{Window}
use Rattle.raster_model.specs.Limits.{max_pixels, max_side}
use Rattle.raster_model.specs.Raster.{Raster}
use Rattle.raster_model.specs.Sums.{Field}

-- how many tiles lie side by side, how many one below another, and how many there are
abbrev pub columns_of_tiles : Tiling → ℕ
columns_of_tiles tiling = (tiling.width + tiling.side - 1) / tiling.side

abbrev pub rows_of_tiles : Tiling → ℕ
rows_of_tiles tiling = (tiling.height + tiling.side - 1) / tiling.side

abbrev pub tiles_of : Tiling → ℕ
tiles_of tiling = rows_of_tiles tiling * columns_of_tiles tiling

-- the tile of a pixel; tiles are numbered row by row
abbrev pub tile_at : Tiling → Field ℕ
tile_at tiling x y = (y / tiling.side) * columns_of_tiles tiling + x / tiling.side

-- the window of a tile: its corners
unfoldable pub window_of : Tiling → ℕ → Window
window_of g t =
    let x = t % columns_of_tiles g * g.side in
    let y = t / columns_of_tiles g * g.side in
    record { x0 = x; y0 = y; x1 = min (x + g.side) g.width - 1; y1 = min (y + g.side) g.height - 1 }

-- the window has a pixel
abbrev pub IsWithin : Window → ℕ → ℕ → Type 0
IsWithin window x y = (window.x0 ≤ x) × (x ≤ window.x1) × (window.y0 ≤ y) × (y ≤ window.y1)

-- how many pixels a row of the window has, and how many rows there are
abbrev pub width_of : Window → ℕ
width_of window = window.x1 - window.x0 + 1

abbrev pub height_of : Window → ℕ
height_of window = window.y1 - window.y0 + 1

-- the place of a pixel in a list with one element for each pixel of the window, in row order
abbrev pub place_in : Window → Field ℕ
place_in window x y = (y - window.y0) * width_of window + (x - window.x0)

-- the window lies in a raster of w by h pixels and has a pixel
pub record IsWindowIn (width h : ℕ) (window : Window) : Type 0 where
  pub across : (window.x0 ≤ window.x1) × (window.x1 < width)
  pub along : (window.y0 ≤ window.y1) × (window.y1 < h)

-- the window has a pixel, and is no larger than a raster may be
pub record IsRasterWindow (window : Window) : Type 0 where
  pub across : (window.x0 ≤ window.x1) × (window.x1 < max_side)
  pub along : (window.y0 ≤ window.y1) × (window.y1 < max_side)
  pub few : width_of window * height_of window ≤ max_pixels

-- the window has exactly the raster's pixels of one tile
pub record IsWindowOf (tiling : Tiling) (tile : ℕ) (window : Window) : Type 0 where
  pub across : (window.x0 ≤ window.x1) × (window.x1 < tiling.width)
  pub along : (window.y0 ≤ window.y1) × (window.y1 < tiling.height)
  pub pixels : (x y : ℕ) → x < tiling.width → y < tiling.height → (tile_at tiling x y ≡ tile) ↔ IsWithin window x y

-- the window has exactly the pixels that a raster counts to tile t
pub record IsTileWindow (raster : Raster) (tile : ℕ) (window : Window) : Type 0 where
  pub across : (window.x0 ≤ window.x1) × (window.x1 < raster.width)
  pub along : (window.y0 ≤ window.y1) × (window.y1 < raster.height)
  pub pixels : (x y : ℕ) → x < raster.width → y < raster.height → (raster.tile x y ≡ tile) ↔ IsWithin window x y

-- the tiles of a raster's pixels are below the count, and two pixels share a tile where they lie in one tile column and one tile row
abbrev pub TilesAreNumbered : Type 0
TilesAreNumbered = (tiling : Tiling) (x y : ℕ) → x < tiling.width → y < tiling.height → tile_at tiling x y < tiles_of tiling

abbrev pub TilesAreSquares : Type 0
TilesAreSquares = (tiling : Tiling) (x y a b : ℕ) → x < tiling.width → a < tiling.width → (tile_at tiling x y ≡ tile_at tiling a b) ↔ ((x / tiling.side ≡ a / tiling.side) × (y / tiling.side ≡ b / tiling.side))

-- each pixel lies in the window of its tile, and in no other tile's window
abbrev pub PixelsHaveOneWindow : Type 0
PixelsHaveOneWindow = (tiling : Tiling) (x y : ℕ) → x < tiling.width → y < tiling.height → IsWithin (window_of tiling (tile_at tiling x y)) x y × ((tile : ℕ) → tile < tiles_of tiling → IsWithin (window_of tiling tile) x y → tile ≡ tile_at tiling x y)
