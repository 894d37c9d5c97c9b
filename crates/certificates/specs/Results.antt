-- What a result says of its tile.
use Rattle.raster_model.specs.declared.limits.TheConstants.{MAX_TILE_CYCLES}
use Rattle.std.specs.Prelude.{◌≡◌, ℕ, ◌*◌, ◌≤◌, ℤ, pos, Bool, IsTrue, List, length, slice_index_or, unsigned_abs}
use Rattle.raster_model.specs.declared.scene.Scene.{Scene}
use Rattle.raster_model.specs.declared.tiling.Window.{Window}
use Rattle.raster_model.specs.Sums.{Field}
use Rattle.raster_model.specs.Raster.{lifted}
use Rattle.raster_model.specs.Cells.{cell_count, IsCertifiedTile}
use Rattle.raster_model.specs.Seams.{IsEarlier}
use Rattle.raster_model.specs.Tiles.{window_of, IsWithin, width_of, height_of, place_in}
use Rattle.raster_model.specs.Scene.{raster_of}
use Rattle.certificates.specs.declared.results.TileResult.{TileResult}

-- how many pixels a window has, and the cycles that a list in its row order has at a pixel of the raster
abbrev pub pixels_in : Window → ℕ
pixels_in window = width_of window * height_of window

abbrev pub listed_cycles : Window → List ℤ → Field ℤ
listed_cycles window cycles x y = slice_index_or cycles (place_in window x y) (pos 0)

-- the window of a result's tile, and the surface that lies the result's cycles above the phase
abbrev pub window_in : Scene → TileResult → Window
window_in scene outcome = window_of scene.tiling outcome.tile

abbrev pub result_surface : Scene → TileResult → Field ℤ
result_surface scene outcome = lifted (raster_of scene) (listed_cycles (window_in scene outcome) outcome.cycles.items)

-- the result has one number of cycles for each pixel of its tile, and one face for each cell
abbrev pub HasShape : Scene → TileResult → Type 0
HasShape scene outcome = (length outcome.cycles.items ≡ pixels_in (window_in scene outcome)) × (length outcome.faces.items ≡ cell_count (raster_of scene) outcome.tile)

-- an open pixel of a window
abbrev pub IsOpenIn : Window → Field Bool → ℕ → ℕ → Type 0
IsOpenIn window mask x y = IsWithin window x y × IsTrue (mask x y)

-- the cycles at a pixel are from -8388608 to 8388608; this holds at each open pixel; it holds at each open pixel before (x, y) in row order; (x, y) is the first open pixel at which it does not
abbrev pub IsInRange : Window → List ℤ → ℕ → ℕ → Type 0
IsInRange window cycles x y = unsigned_abs (listed_cycles window cycles x y) ≤ MAX_TILE_CYCLES

abbrev pub AreInRange : Window → Field Bool → List ℤ → Type 0
AreInRange window mask cycles = (x y : ℕ) → IsOpenIn window mask x y → IsInRange window cycles x y

abbrev pub AreInRangeBefore : Window → Field Bool → List ℤ → ℕ → ℕ → Type 0
AreInRangeBefore window mask cycles x y = (a b : ℕ) → IsOpenIn window mask a b → IsEarlier a b x y → IsInRange window cycles a b

pub record IsFirstOutside (window : Window) (mask : Field Bool) (cycles : List ℤ) (x y : ℕ) : Type 0 where
  pub pixel : IsOpenIn window mask x y
  pub outside : IsInRange window cycles x y → ⊥
  pub first : AreInRangeBefore window mask cycles x y

-- a good result: it has its shape, its cycles are in range at the open pixels, and its faces certify its surface
pub record IsGoodTile (scene : Scene) (mask : Field Bool) (outcome : TileResult) : Type 0 where
  pub shape : HasShape scene outcome
  pub in_range : AreInRange (window_in scene outcome) mask outcome.cycles.items
  pub certified : IsCertifiedTile (raster_of scene) mask outcome.tile (result_surface scene outcome) outcome.faces.items
