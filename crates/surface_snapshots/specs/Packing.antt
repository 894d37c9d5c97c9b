-- Labels of a tile in a list, and what is packed of them. No clause of a public function cites these words.
use Rattle.std.specs.Prelude.{◌≡◌, ℕ, ◌+◌, ◌*◌, ◌<◌, List, length, slice_get, slice_index, Some}
use Rattle.raster_model.specs.declared.tiling.Tiling.{Tiling}
use Rattle.raster_model.specs.declared.tiling.Window.{Window}
use Rattle.raster_model.specs.Tiles.{IsWithin, place_in, tile_at, window_of}
use Rattle.surface_snapshots.specs.Runs.{RunsView, label_by}

-- the list has the labels of a window's pixels in row order, as far as before row y
pub record AreLabelsBefore (all : List ℕ) (width : ℕ) (window : Window) (y : ℕ) (list : List ℕ) : Type 0 where
  pub size : length list ≡ place_in window window.x0 y
  pub each : (a b : ℕ) → IsWithin window a b → b < y → slice_index list (place_in window a b) ≡ slice_index all (b * width + a)

-- what is kept of a tile tells the label of each of its pixels; what is kept of each of the first n tiles does
abbrev pub TellsTile : Tiling → List ℕ → List ℕ → List RunsView → ℕ → Type 0
TellsTile tiling all labels tiles tile = (x y : ℕ) → x < tiling.width → y < tiling.height → tile_at tiling x y ≡ tile → label_by labels (slice_get tiles tile) (place_in (window_of tiling tile) x y) ≡ Some (slice_index all (y * tiling.width + x))

abbrev pub TellTiles : Tiling → List ℕ → List ℕ → List RunsView → ℕ → Type 0
TellTiles tiling all labels tiles n = (tile : ℕ) → tile < n → TellsTile tiling all labels tiles tile
