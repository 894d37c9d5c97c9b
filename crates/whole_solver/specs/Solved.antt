-- A surface over the whole raster, as a list of cycles tells it.
use Rattle.std.specs.Prelude.{◌≡◌, ℕ, ◌-◌, ◌<◌, ℤ, ◌-ℤ◌, List}
use Rattle.raster_model.specs.declared.tiling.Window.{Window}
use Rattle.raster_model.specs.Raster.{Raster, lifted}
use Rattle.raster_model.specs.Sums.{Field}
use Rattle.surface_integration.specs.Cycles.{cycles_at}

-- the window of the whole raster
abbrev pub raster_window : Raster → Window
raster_window raster = record { x0 = 0; y0 = 0; x1 = raster.width - 1; y1 = raster.height - 1 }

-- the surface that lies so many cycles above the phase, by a list in row order
abbrev pub listed_surface : Raster → List ℤ → Field ℤ
listed_surface raster cycles = lifted raster (cycles_at (raster_window raster) cycles)

-- the cycles of the second surface are those of the first less a number, at each pixel
abbrev pub AreMoved : Raster → Field ℤ → Field ℤ → ℤ → Type 0
AreMoved raster c d by = (x y : ℕ) → x < raster.width → y < raster.height → d x y ≡ c x y -ℤ by
