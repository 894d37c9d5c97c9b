-- Laws of displacements.
use Rattle.std.specs.Prelude.{◌≡◌, ◌≢◌, ℕ, ◌*◌, ◌/◌, pos, ◌+ℤ◌, IsTrue}
use Rattle.grid_writer.specs.Grids.{GridOf, IsSameGrid}
use Rattle.displacement.specs.declared.fault.SightFault.{SightFault}
use Rattle.displacement.specs.declared.fault.SightFault.TheVariants.{Memory}
use Rattle.displacement.specs.declared.sight.Sight.{Sight}
use Rattle.displacement.specs.Blocks.{has_value}
use Rattle.displacement.specs.Displacements.{HasCause, IsDisplacement}

-- a grid has one grid of displacements
abbrev pub DisplacementsAreUnique : Type 0
DisplacementsAreUnique = (sight : Sight) (g one other : GridOf) → IsDisplacement sight g one → IsDisplacement sight g other → IsSameGrid one other

-- a grid that has displacements has no refusal but lack of memory, and no grid has two others
pub record OneAnswer : Type 0 where
  pub either : (s : Sight) (g output : GridOf) (fault : SightFault) → IsDisplacement s g output → HasCause s g fault → fault ≡ Memory
  pub one : (s : Sight) (g : GridOf) (fault other : SightFault) → fault ≢ Memory → other ≢ Memory → HasCause s g fault → HasCause s g other → fault ≡ other

-- in blocks of one pixel, n cycles above the reference's value are n half wavelengths, rounded down; so the reference pixel itself is displaced by 0
abbrev pub CyclesAreHalfWavelengths : Type 0
CyclesAreHalfWavelengths = (sight : Sight) (g output : GridOf) (x y n : ℕ) → sight.block ≡ 1 → IsDisplacement sight g output → IsTrue (has_value g x y) → g.values x y ≡ g.values sight.x sight.y +ℤ pos (65536 * n) → output.values x y ≡ pos (sight.wavelength * n / 2)
