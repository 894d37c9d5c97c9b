-- A list of a window's pixels while it is made. No public clause cites this file.
use Rattle.std.specs.Prelude.{◌≡◌, ℕ, ◌+◌, ◌/◌, ◌%◌, ◌<◌, Bool, List, length, slice_index_or}
use Rattle.raster_model.specs.declared.tiling.Window.{Window}
use Rattle.raster_model.specs.Sums.{Field}
use Rattle.raster_model.specs.Tiles.{width_of}

-- the list says of each of the first n pixels of a window, in row order, whether it is open
pub record AreListedBefore (window : Window) (mask : Field Bool) (n : ℕ) (list : List Bool) : Type 0 where
  pub count : length list ≡ n
  pub each : (i : ℕ) → i < n → slice_index_or list i Bool.false ≡ mask (window.x0 + i % width_of window) (window.y0 + i / width_of window)
