-- Words of helpers: a surface of shifted tiles as the definitions read it, and lists of its cycles. No clause of a public function cites them.
use Rattle.std.specs.Prelude.{◌≡◌, ℕ, ◌+◌, ◌-◌, ◌*◌, ◌%◌, ◌<◌, ◌≤◌, ℤ, pos, neg_ℤ, Bool, ◌&&◌, IsTrue, nat_le, nat_lt, List, length, slice_get, slice_index_or, Some, if◌then◌else◌}
use Rattle.raster_model.specs.MaskView.{MaskView}
use Rattle.raster_model.specs.Masks.{open_at}
use Rattle.raster_model.specs.Raster.{Raster}
use Rattle.raster_model.specs.Scene.{raster_of}
use Rattle.raster_model.specs.Sums.{Field}
use Rattle.surface_snapshots.specs.declared.shifted.ShiftedTiles.{ShiftedTiles}
use Rattle.certificates.specs.declared.results.TileResult.{TileResult}
use Rattle.raster_model.specs.declared.tiling.Window.{Window}
use Rattle.raster_model.specs.Tiles.{tile_at, window_of}
use Rattle.seam_regions.specs.Regions.{region_label}
use Rattle.surface_snapshots.specs.Tiled.{mask_told, regions_in}
use Rattle.surface_snapshots.specs.Parts.{Parts, cycles_in_parts, is_open_pixel, open_in, shifted_cycles}

-- the raster, the mask, the open pixels and the cycles above the phase
abbrev pub raster_under : ShiftedTiles → Raster
raster_under shifted = raster_of shifted.scene.now

abbrev pub mask_under : ShiftedTiles → MaskView
mask_under shifted = mask_told (regions_in shifted.regions.now)

abbrev pub open_under : ShiftedTiles → Field Bool
open_under shifted = open_at (mask_under shifted)

abbrev pub cycles_under : ShiftedTiles → Field ℤ
cycles_under shifted = shifted_cycles shifted.scene.now (regions_in shifted.regions.now) shifted.tiles.now.results shifted.offsets.now

-- the list has a number for each of the first n pixels in row order: the cycles of each that is open
pub record AreListedCycles (shifted : ShiftedTiles) (n : ℕ) (list : List ℤ) : Type 0 where
  pub count : length list ≡ n
  pub at : (x y : ℕ) → x < shifted.scene.now.phase.width → y < shifted.scene.now.phase.height → IsTrue (open_under shifted x y) → y * shifted.scene.now.phase.width + x < n → slice_index_or list (y * shifted.scene.now.phase.width + x) (pos 0) ≡ cycles_under shifted x y

-- what stands for the cycles of a masked pixel; the cycles where a pixel is open, and that where it is not
abbrev pub no_cycles : ℤ
no_cycles = neg_ℤ (pos 9223372036854775808)

abbrev pub cycles_or_none : Bool → ℤ → ℤ
cycles_or_none clear cycles = if clear then cycles else no_cycles

-- the same at each pixel, of a surface and of parts
unfoldable pub level_at : ShiftedTiles → Field ℤ
level_at shifted x y = cycles_or_none (open_under shifted x y) (cycles_under shifted x y)

abbrev pub level_in : Parts → Field ℤ
level_in parts x y = cycles_or_none (open_in parts x y) (cycles_in_parts parts x y)

-- the n pixels from the place start on, in row order, are whole rows of the raster
pub record IsStrip (shifted : ShiftedTiles) (start n : ℕ) : Type 0 where
  pub from : start % shifted.scene.now.phase.width ≡ 0
  pub rows : n % shifted.scene.now.phase.width ≡ 0
  pub within : start + n ≤ shifted.scene.now.phase.height * shifted.scene.now.phase.width

-- an open pixel that is one of the n from the place start on, in row order
abbrev pub is_open_there : ShiftedTiles → ℕ → ℕ → Field Bool
is_open_there s start n x y =
    is_open_pixel s.scene.now.phase.width s.scene.now.phase.height (open_under s) x y
    && (nat_le start (y * s.scene.now.phase.width + x) && nat_lt (y * s.scene.now.phase.width + x) (start + n))

-- the list begins with what stands for the cycles of those pixels
abbrev pub AreLevelsFrom : ShiftedTiles → ℕ → ℕ → List ℤ → Type 0
AreLevelsFrom shifted start n list = (x y : ℕ) → x < shifted.scene.now.phase.width → start ≤ y * shifted.scene.now.phase.width + x → y * shifted.scene.now.phase.width + x < start + n → slice_index_or list (y * shifted.scene.now.phase.width + x - start) (pos 0) ≡ level_at shifted x y

-- the pixels of row y from column x to before column z lie in one tile, which has this window, and have one label
pub record IsSpan (shifted : ShiftedTiles) (w : Window) (x z y label : ℕ) : Type 0 where
  pub across : (x < z) × (z ≤ w.x1 + 1)
  pub row : y < shifted.scene.now.phase.height
  pub column : x < shifted.scene.now.phase.width
  pub window : w ≡ window_of shifted.scene.now.tiling (tile_at shifted.scene.now.tiling x y)
  pub labels : (c : ℕ) → x ≤ c → c < z → region_label (regions_in shifted.regions.now) c y ≡ label

-- the result of tile t has these cycles
abbrev pub HasCycles : ShiftedTiles → ℕ → List ℤ → Type 0
HasCycles shifted tile cycles = (outcome : TileResult) × (slice_get shifted.tiles.now.results tile ≡ Some outcome) × (cycles ≡ outcome.cycles.items)
