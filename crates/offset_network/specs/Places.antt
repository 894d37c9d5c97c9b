-- Where the columns and rows of a raster lie among its tiles, as the table of them has it, and where a pixel does. No public clause cites this file.
use Rattle.std.specs.Prelude.{◌≡◌, ℕ, ◌+◌, ◌-◌, ◌*◌, ◌/◌, ◌<◌, min, List, Some, length, slice_get}
use Rattle.raster_model.specs.declared.tiling.Tiling.{Tiling}
use Rattle.raster_model.specs.Tiles.{IsWindowOf, tile_at, tiles_of, window_of}
use Rattle.offset_network.specs.declared.places.Place.{Place}
use Rattle.offset_network.specs.declared.places.Spot.{Spot}

-- the place of column or row i, of so many, among tiles of a side whose numbers go up by a step
abbrev pub tile_place : ℕ → ℕ → ℕ → ℕ → Place
tile_place count side step i = record { tile = i / side * step; first = i / side * side; last = min (i / side * side + side) count - 1 }

-- the list has the places of the first n
pub record ArePlaces (count side step n : ℕ) (places : List Place) : Type 0 where
  pub size : length places ≡ n
  pub each : (i : ℕ) (p : Place) → slice_get places i ≡ Some p → p ≡ tile_place count side step i

-- the pixel's tile, with its window
pub record IsSpotOf (tiling : Tiling) (x y : ℕ) (spot : Spot) : Type 0 where
  pub here : spot.tile ≡ tile_at tiling x y
  pub exists : spot.tile < tiles_of tiling
  pub window_is : spot.window ≡ window_of tiling spot.tile
  pub pixels : IsWindowOf tiling spot.tile spot.window
