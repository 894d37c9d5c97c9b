-- The surface that differs from a wrapped phase by whole cycles and is nearest to a given one, in units of 1/65536 cycle.
use Rattle.std.specs.Prelude.{◌≡◌, ℕ, ◌<◌, ℤ, pos, neg_ℤ, ◌+ℤ◌, ◌-ℤ◌, ◌*ℤ◌, ◌≤ℤ◌, Bool, IsFalse, IsTrue}
use Rattle.raster_model.specs.declared.plane.Plane.{Plane}
use Rattle.raster_model.specs.MaskView.{MaskView}
use Rattle.raster_model.specs.Masks.{open_at}
use Rattle.raster_model.specs.Planes.{plane_sample}
use Rattle.raster_model.specs.Seams.{IsEarlier}
use Rattle.raster_model.specs.Sums.{Field}
use Rattle.grid_writer.specs.Grids.{GridOf}
use Rattle.grid_writer.specs.ManyGrids.{HasSize}
use Rattle.grid_writer.specs.Values.{CanStand, no_data}
use Rattle.nearest_surface.specs.declared.fault.NearestFault.{NearestFault}
use Rattle.nearest_surface.specs.declared.fault.NearestFault.TheVariants.{Sizes, Missing, Wide}

-- a value is the phase up to whole cycles, and at most half a cycle from the given one: of two that are half a cycle away, the lower
pub record IsNearest (phase : ℕ) (given value : ℤ) : Type 0 where
  pub cycles : ℤ
  pub whole : value ≡ pos phase +ℤ pos 65536 *ℤ cycles
  pub least : neg_ℤ (pos 32768) ≤ℤ (value -ℤ given)
  pub most : (value -ℤ given) ≤ℤ pos 32767

-- that value cannot stand in a grid
pub record IsTooWide (phase : ℕ) (given : ℤ) : Type 0 where
  pub value : ℤ
  pub nearest : IsNearest phase given value
  pub wide : CanStand value → ⊥

-- what stands at a pixel: NODATA if it is masked, and the nearest value if it is open
pub record Stands (unmasked : Bool) (phase : ℕ) (given value : ℤ) : Type 0 where
  pub masked : IsFalse unmasked → value ≡ no_data
  pub nearest : IsTrue unmasked → IsNearest phase given value × CanStand value

-- ---- grids

-- a wrapped phase, and which of its pixels are open
pub record MaskedPhase : Type 0 where
  pub width : ℕ
  pub height : ℕ
  pub phase : Field ℕ
  pub mask : Field Bool

abbrev pub masked_phase : Plane → MaskView → MaskedPhase
masked_phase phase mask = record { width = phase.width; height = phase.height; phase = plane_sample phase; mask = open_at mask }

-- an open pixel at which no value is given, or whose nearest value is too wide
abbrev pub IsMissing : Field Bool → Field ℤ → ℕ → ℕ → Type 0
IsMissing mask given x y = IsTrue (mask x y) × (given x y ≡ no_data)

abbrev pub IsWide : MaskedPhase → Field ℤ → ℕ → ℕ → Type 0
IsWide p given x y = IsTrue (p.mask x y) × IsTooWide (p.phase x y) (given x y)

-- a value is given at each open pixel
abbrev pub IsComplete : MaskedPhase → Field ℤ → Type 0
IsComplete p given = (x y : ℕ) → x < p.width → y < p.height → IsMissing p.mask given x y → ⊥

-- the second grid is nearest to the first, which has a value at each open pixel
pub record IsNearestSurface (p : MaskedPhase) (given output : GridOf) : Type 0 where
  pub given_size : HasSize p.width p.height given
  pub size : HasSize p.width p.height output
  pub complete : IsComplete p given.values
  pub values : (x y : ℕ) → x < p.width → y < p.height → Stands (p.mask x y) (p.phase x y) (given.values x y) (output.values x y)

-- the first pixel in row order of which P holds
pub record IsFirstOf (width height : ℕ) (P : ℕ → ℕ → Type 0) (x y : ℕ) : Type 0 where
  pub across : x < width
  pub along : y < height
  pub here : P x y
  pub first : (a b : ℕ) → a < width → IsEarlier a b x y → P a b → ⊥

-- what a refusal says
abbrev pub HasCause : MaskedPhase → GridOf → NearestFault → Type 0
HasCause p given Sizes = HasSize p.width p.height given → ⊥
HasCause p given (Missing x y) = HasSize p.width p.height given × IsFirstOf p.width p.height (IsMissing p.mask given.values) x y
HasCause p given (Wide x y) = HasSize p.width p.height given × (IsComplete p given.values × IsFirstOf p.width p.height (IsWide p given.values) x y)
