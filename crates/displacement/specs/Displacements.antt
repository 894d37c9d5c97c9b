-- Displacement along the line of sight. A cycle of phase is half a wavelength of range, since the signal goes there and back (Massonnet and Feigl 1998).
use Rattle.std.specs.Prelude.{◌≡◌, ℕ, ◌*◌, ◌<◌, ◌≤◌, ℤ, pos, ◌+ℤ◌, ◌-ℤ◌, ◌*ℤ◌, ◌≤ℤ◌, ◌<ℤ◌, IsTrue, false}
use Rattle.raster_model.specs.Seams.{IsEarlier}
use Rattle.raster_model.specs.Sums.{Field}
use Rattle.grid_writer.specs.Grids.{GridOf}
use Rattle.grid_writer.specs.Values.{CanStand, no_data}
use Rattle.displacement.specs.declared.fault.SightFault.{SightFault}
use Rattle.displacement.specs.declared.fault.SightFault.TheVariants.{Reference, Wide, Memory}
use Rattle.displacement.specs.declared.sight.Sight.{Sight}
use Rattle.displacement.specs.Blocks.{block_count, block_sum, blocks_of, has_value}

-- wavelengths, in nanometres, and sides of blocks, in pixels, that may be asked for
abbrev pub IsWavelength : ℕ → Type 0
IsWavelength wavelength = (1 ≤ wavelength) × (wavelength ≤ 1000000000)

abbrev pub IsBlockSide : ℕ → Type 0
IsBlockSide b = (1 ≤ b) × (b ≤ 64)

-- d is the mean of n numbers with the sum z, in nanometres and rounded down: their unit is 1/65536 cycle, which is 1/131072 wavelength
pub record IsMean (wavelength n : ℕ) (z d : ℤ) : Type 0 where
  pub least : (pos (131072 * n) *ℤ d) ≤ℤ (pos wavelength *ℤ z)
  pub most : (pos wavelength *ℤ z) <ℤ (pos (131072 * n) *ℤ (d +ℤ pos 1))

-- the mean of n numbers with the sum z cannot stand in a grid
pub record IsTooWide (wavelength n : ℕ) (z : ℤ) : Type 0 where
  pub displacement : ℤ
  pub mean : IsMean wavelength n z displacement
  pub wide : CanStand displacement → ⊥

-- how far the values of a block are above the reference's value, in sum
abbrev pub block_rise : Sight → GridOf → Field ℤ
block_rise sight grid i j = block_sum grid sight.block i j -ℤ pos (block_count grid sight.block i j) *ℤ grid.values sight.x sight.y

-- d is the block's displacement
abbrev pub IsBlockMean : Sight → GridOf → ℕ → ℕ → ℤ → Type 0
IsBlockMean sight grid i j d = IsMean sight.wavelength (block_count grid sight.block i j) (block_rise sight grid i j) d

-- d stands for the block: its displacement if it has a value, and else NODATA
pub record IsBlockValue (sight : Sight) (grid : GridOf) (i j : ℕ) (d : ℤ) : Type 0 where
  pub none : block_count grid sight.block i j ≡ 0 → d ≡ no_data
  pub mean : 0 < block_count grid sight.block i j → IsBlockMean sight grid i j d × CanStand d

-- the second grid has the displacements of the first
pub record IsDisplacement (sight : Sight) (g output : GridOf) : Type 0 where
  pub reference : IsTrue (has_value g sight.x sight.y)
  pub width : output.width ≡ blocks_of sight.block g.width
  pub height : output.height ≡ blocks_of sight.block g.height
  pub blocks : (i j : ℕ) → i < output.width → j < output.height → IsBlockValue sight g i j (output.values i j)

-- the block has a value, and its displacement cannot stand in a grid; and it is the first such block in row order
pub record IsWideBlock (sight : Sight) (grid : GridOf) (i j : ℕ) : Type 0 where
  pub some : 0 < block_count grid sight.block i j
  pub wide : IsTooWide sight.wavelength (block_count grid sight.block i j) (block_rise sight grid i j)

pub record IsFirstWideBlock (sight : Sight) (grid : GridOf) (x y : ℕ) : Type 0 where
  pub across : x < blocks_of sight.block grid.width
  pub along : y < blocks_of sight.block grid.height
  pub here : IsWideBlock sight grid x y
  pub first : (i j : ℕ) → i < blocks_of sight.block grid.width → IsEarlier i j x y → IsWideBlock sight grid i j → ⊥

-- what a refusal says; lack of memory says nothing
abbrev pub HasCause : Sight → GridOf → SightFault → Type 0
HasCause sight grid Reference = has_value grid sight.x sight.y ≡ false
HasCause sight grid (Wide x y) = IsTrue (has_value grid sight.x sight.y) × IsFirstWideBlock sight grid x y
HasCause sight grid Memory = Unit {0}
