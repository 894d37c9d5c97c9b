-- Which values of a grid fit a phase and a mask, and which surface they show.
use Rattle.std.specs.Prelude.{◌≡◌, ◌≢◌, ℕ, ◌<◌, ℤ, pos, ◌+ℤ◌, ◌*ℤ◌, Bool, IsTrue, IsFalse}
use Rattle.std.specs.Int.{int_div_euclid}
use Rattle.raster_model.specs.Raster.{Raster}
use Rattle.raster_model.specs.Seams.{IsEarlier}
use Rattle.raster_model.specs.Sums.{Field}
use Rattle.grid_writer.specs.Values.{no_data}

-- phases are less than a cycle
abbrev pub HasPhases : Raster → Type 0
HasPhases raster = (x y : ℕ) → raster.phase x y < 65536

-- a masked pixel has NODATA; an open one has another value, which is the phase up to whole cycles
pub record FitsPhase (phase : ℕ) (value : ℤ) : Type 0 where
  pub told : value ≢ no_data
  pub cycles : ℤ
  pub whole : value ≡ pos phase +ℤ pos 65536 *ℤ cycles

pub record ValueFits (raster : Raster) (mask : Field Bool) (values : Field ℤ) (x y : ℕ) : Type 0 where
  pub masked : IsFalse (mask x y) → values x y ≡ no_data
  pub unmasked : IsTrue (mask x y) → FitsPhase (raster.phase x y) (values x y)

abbrev pub AllValuesFit : Raster → Field Bool → Field ℤ → Type 0
AllValuesFit raster mask values = (x y : ℕ) → x < raster.width → y < raster.height → ValueFits raster mask values x y

-- the first pixel in row order whose value does not
pub record IsFirstUnfitValue (raster : Raster) (mask : Field Bool) (values : Field ℤ) (x y : ℕ) : Type 0 where
  pub across : x < raster.width
  pub along : y < raster.height
  pub unfit : ValueFits raster mask values x y → ⊥
  pub first : (a b : ℕ) → a < raster.width → b < raster.height → IsEarlier a b x y → ValueFits raster mask values a b

-- the first n values of a row fit; the value at x is the first of the row that does not
abbrev pub FitInRow : Raster → Field Bool → Field ℤ → ℕ → ℕ → Type 0
FitInRow raster mask values y n = (x : ℕ) → x < n → ValueFits raster mask values x y

pub record IsFirstUnfitInRow (raster : Raster) (mask : Field Bool) (values : Field ℤ) (y x : ℕ) : Type 0 where
  pub across : x < raster.width
  pub unfit : ValueFits raster mask values x y → ⊥
  pub first : FitInRow raster mask values y x

-- the values of the first n rows do
abbrev pub FitInRows : Raster → Field Bool → Field ℤ → ℕ → Type 0
FitInRows raster mask values n = (y : ℕ) → y < n → FitInRow raster mask values y raster.width

-- the cycles above the phase that values show: the surface that lies so far above the phase has the values where they fit and the pixel is open
abbrev pub cycles_shown : Field ℤ → Field ℤ
cycles_shown values x y = int_div_euclid (values x y) (pos 65536)
