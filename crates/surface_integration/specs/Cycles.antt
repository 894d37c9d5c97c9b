-- Whole cycles above the phase over a window, and the corrections by which their surface departs (Costantini 1998).
use Rattle.std.specs.Prelude.{◌≡◌, ℕ, ◌+◌, ◌-◌, ◌*◌, ◌≤◌, ℤ, pos, List, slice_index_or, unsigned_abs}
use Rattle.raster_model.specs.declared.edge.Edge.{Edge}
use Rattle.raster_model.specs.declared.tiling.Window.{Window}
use Rattle.raster_model.specs.Sums.{Field}
use Rattle.raster_model.specs.Raster.{Raster, departure, lifted}
use Rattle.raster_model.specs.Tiles.{IsWithin, width_of, height_of, place_in}
use Rattle.surface_integration.specs.declared.limits.TheConstants.{MAX_NARROW_CYCLES}
use Rattle.wrapped_gradient.specs.declared.corrections.Corrections.{Corrections}
use Rattle.wrapped_gradient.specs.Corrections.{correction_at, greatest_of}
use Rattle.wrapped_gradient.specs.Windows.{IsEdgeOf}

-- the cycles that a list in the window's row order has at a pixel of the raster
abbrev pub cycles_at : Window → List ℤ → Field ℤ
cycles_at window cycles x y = slice_index_or cycles (place_in window x y) (pos 0)

-- the surface that lies so many cycles above the phase departs by the correction at each edge of the window
abbrev pub DepartBy : Raster → Window → Field ℤ → Corrections → Type 0
DepartBy raster window cycles corrections = (edge : Edge) → IsEdgeOf window edge → departure raster (lifted raster cycles) edge ≡ correction_at window corrections edge

-- with w and h the sides of the window and b the greatest absolute correction, (w + h) * (b + 1) is at most what 32 bits keep
abbrev pub AreSmall : Window → Corrections → Type 0
AreSmall window corrections = (width_of window + height_of window) * (greatest_of corrections + 1) ≤ MAX_NARROW_CYCLES

-- no pixel has more absolute cycles than the limit
abbrev pub LieWithin : Window → Field ℤ → ℕ → Type 0
LieWithin window cycles limit = (x y : ℕ) → IsWithin window x y → unsigned_abs (cycles x y) ≤ limit

-- at a pixel some steps to the right of the window's first and some below, the absolute cycles are at most those steps times b + 1
abbrev pub StaySmall : Window → Field ℤ → ℕ → Type 0
StaySmall window cycles b = (x y : ℕ) → IsWithin window x y → unsigned_abs (cycles x y) ≤ (x - window.x0 + (y - window.y0)) * (b + 1)
