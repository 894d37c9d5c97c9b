-- What `displacement` reads, which is a grid, and what it writes: a grid of nanometres along the line of sight.
use Rattle.std.specs.Prelude.{◌≡◌, ◌<◌, ℕ, List, [], ◌∷◌, IsTrue}
use Rattle.grid_writer.specs.Grids.{GridOf, IsGrid, text_of_grid}
use Rattle.displacement.specs.declared.fault.SightFault.{SightFault}
use Rattle.displacement.specs.declared.fault.SightFault.TheVariants as faults
use Rattle.displacement.specs.declared.sight.Sight.{Sight}
use Rattle.displacement.specs.Blocks.{blocks_of, has_value}
use Rattle.displacement.specs.Displacements.{HasCause, IsDisplacement, IsWideBlock}
use Rattle.insar_words.specs.declared.displacing.Displacing.{Displacing}
use Rattle.insar_commands.specs.Grids.{AreGridsIn, BreaksMany}
use Rattle.answer_lines.specs.declared.refusal.Refusal.{Refusal}
use Rattle.answer_lines.specs.declared.refusal.Refusal.TheVariants as refusals

-- the sight that words ask for
abbrev pub sight_of : Displacing → Sight
sight_of displacing = record { wavelength = displacing.wavelength; x = displacing.x; y = displacing.y; block = displacing.block }

-- the bytes are the text of this grid
abbrev pub IsOneGrid : List ℕ → GridOf → Type 0
IsOneGrid bytes grid = AreGridsIn 1 bytes (grid ∷ [])

-- the bytes are the text of a grid whose reference pixel has a value, and no block of which is displaced too far to be written
pub record IsSightInput (sight : Sight) (bytes : List ℕ) : Type 0 where
  pub g : GridOf
  pub one : IsOneGrid bytes g
  pub reference : IsTrue (has_value g sight.x sight.y)
  pub narrow : (i j : ℕ) → i < blocks_of sight.block g.width → j < blocks_of sight.block g.height → IsWideBlock sight g i j → ⊥

-- the bytes are the text of a grid that has no displacements for this cause
abbrev pub HasSightFault : Sight → List ℕ → SightFault → Type 0
HasSightFault sight bytes fault = (grid : GridOf) × (IsOneGrid bytes grid × HasCause sight grid fault)

-- the break of the bytes for which there are no displacements: the first break of a grid, or the cause for which the grid has none
abbrev pub BreaksSight : Sight → List ℕ → Refusal → Type 0
BreaksSight sight bytes refusals.Reference = HasSightFault sight bytes faults.Reference
BreaksSight sight bytes (refusals.Wide x y) = HasSightFault sight bytes (faults.Wide x y)
BreaksSight sight bytes refusal = BreaksMany 1 bytes refusal

-- a grid has the displacements of the grid that the bytes spell
abbrev pub HasDisplacements : Sight → List ℕ → GridOf → Type 0
HasDisplacements sight bytes output = (grid : GridOf) × (IsOneGrid bytes grid × IsDisplacement sight grid output)

-- the text is that of such a grid, each value of which fits 64 bits
pub record IsDisplacementAnswer (sight : Sight) (bytes text : List ℕ) : Type 0 where
  pub output : GridOf
  pub displaced : HasDisplacements sight bytes output
  pub in_range : IsGrid output
  pub written : text ≡ text_of_grid output
