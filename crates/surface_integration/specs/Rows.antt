-- Rows of cycles as they are listed: words of helpers, which no public clause cites.
use Rattle.std.specs.Prelude.{◌≡◌, ℕ, ◌+◌, ◌*◌, ◌<◌, ℤ, pos, ◌+ℤ◌, ◌-ℤ◌, List, length, slice_index_or}
use Rattle.raster_model.specs.declared.edge.Edge.{Edge}
use Rattle.raster_model.specs.declared.tiling.Window.{Window}
use Rattle.raster_model.specs.Raster.{Raster, turns_of}
use Rattle.raster_model.specs.Sums.{right_edge}
use Rattle.wrapped_gradient.specs.declared.corrections.Corrections.{Corrections}
use Rattle.raster_model.specs.Tiles.{width_of, height_of}
use Rattle.wrapped_gradient.specs.Corrections.{correction_at, greatest_of}
use Rattle.surface_integration.specs.Cycles.{DepartBy, StaySmall, cycles_at}

-- the rise of the cycles along an edge whose departure is the correction: it makes up for the cycles that the wrapped difference leaves out
abbrev pub rise_of : Raster → Window → Corrections → Edge → ℤ
rise_of raster window corrections edge = correction_at window corrections edge -ℤ turns_of raster edge

-- the new list is the old one and then n + 1 pixels of row y, which begin with a number and rise along n right edges
pub record IsRowAdded (raster : Raster) (window : Window) (corrections : Corrections) (y n : ℕ) (first : ℤ) (old new : List ℤ) : Type 0 where
  pub count : length new ≡ length old + n + 1
  pub kept : (i : ℕ) → i < length old → slice_index_or new i (pos 0) ≡ slice_index_or old i (pos 0)
  pub begins : slice_index_or new (length old) (pos 0) ≡ first
  pub rises : (i : ℕ) → i < n → slice_index_or new (length old + (i + 1)) (pos 0) ≡ slice_index_or new (length old + i) (pos 0) +ℤ rise_of raster window corrections (right_edge (window.x0 + i) y)

-- the cycles of a whole window, from 0 at its first pixel
pub record AreIntegrated (raster : Raster) (window : Window) (corrections : Corrections) (zs : List ℤ) : Type 0 where
  pub count : length zs ≡ width_of window * height_of window
  pub first : cycles_at window zs window.x0 window.y0 ≡ pos 0
  pub departs : DepartBy raster window (cycles_at window zs) corrections
  pub bounded : StaySmall window (cycles_at window zs) (greatest_of corrections)
