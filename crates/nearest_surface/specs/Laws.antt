-- Laws of nearest surfaces.
use Rattle.std.specs.Prelude.{◌≡◌, ◌≢◌, ◌⊎◌, ℕ, ◌<◌, ℤ, pos, ◌+ℤ◌, ◌-ℤ◌, ◌*ℤ◌, ◌<ℤ◌, unsigned_abs}
use Rattle.grid_writer.specs.Grids.{GridOf, IsSameGrid}
use Rattle.nearest_surface.specs.declared.fault.NearestFault.{NearestFault}
use Rattle.nearest_surface.specs.Nearest.{HasCause, IsNearest, IsNearestSurface, MaskedPhase}

-- a number is further from the given one than a value is; or it is as far, and above the value
abbrev pub IsFurther : ℤ → ℤ → ℤ → Type 0
IsFurther given value other = (unsigned_abs (value -ℤ given) < unsigned_abs (other -ℤ given)) ⊎ ((unsigned_abs (value -ℤ given) ≡ unsigned_abs (other -ℤ given)) × (value <ℤ other))

-- so is any other number that is the phase up to whole cycles
abbrev pub NoneIsNearer : Type 0
NoneIsNearer = (phase : ℕ) (given value other cycles : ℤ) → IsNearest phase given value → other ≡ pos phase +ℤ pos 65536 *ℤ cycles → other ≢ value → IsFurther given value other

-- there is one nearest surface
abbrev pub NearestIsUnique : Type 0
NearestIsUnique = (masked : MaskedPhase) (given one other : GridOf) → IsNearestSurface masked given one → IsNearestSurface masked given other → IsSameGrid one other

-- a grid that has a nearest surface has no refusal, and no grid has two
pub record OneAnswer : Type 0 where
  pub either : (p : MaskedPhase) (given output : GridOf) (fault : NearestFault) → IsNearestSurface p given output → HasCause p given fault → ⊥
  pub one : (p : MaskedPhase) (given : GridOf) (fault other : NearestFault) → HasCause p given fault → HasCause p given other → fault ≡ other

-- a nearest surface is nearest to itself
abbrev pub NearestIsOwn : Type 0
NearestIsOwn = (masked : MaskedPhase) (given output : GridOf) → IsNearestSurface masked given output → IsNearestSurface masked output output
