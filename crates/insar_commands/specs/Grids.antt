-- Grids of one size, one after the other, as `closure`, `displacement` and `nearest` read them.
use Rattle.std.specs.Prelude.{◌≡◌, ◌≤◌, ℕ, List, length}
use Rattle.grid_writer.specs.Grids.{GridOf}
use Rattle.grid_writer.specs.ManyGrids.{AreGrids, BreaksGrids, text_of_grids}
use Rattle.grid_writer.specs.declared.fault.GridsFault.TheVariants as faults
use Rattle.answer_lines.specs.declared.refusal.Refusal.{Refusal}
use Rattle.answer_lines.specs.declared.refusal.Refusal.TheVariants as refusals

-- the most bytes of all of them
abbrev pub max_grids_bytes : ℕ
max_grids_bytes = 268435456

-- the bytes are the texts of these grids, so many and of one size
pub record AreGridsIn (count : ℕ) (bytes : List ℕ) (grids : List GridOf) : Type 0 where
  pub width : ℕ
  pub height : ℕ
  pub are : AreGrids count width height grids
  pub spelled : bytes ≡ text_of_grids grids
  pub within : length bytes ≤ max_grids_bytes

-- the first break of bytes that should be so many grids; the bytes begin at the place `at`, or at the start
abbrev pub BreaksManyAt : ℕ → ℕ → List ℕ → Refusal → Type 0
BreaksManyAt count at bytes (refusals.GridLine grid line) = BreaksGrids count at max_grids_bytes bytes (faults.Line grid line)
BreaksManyAt count at bytes (refusals.GridLong grid) = BreaksGrids count at max_grids_bytes bytes (faults.Long grid)
BreaksManyAt count at bytes (refusals.GridSizes grid) = BreaksGrids count at max_grids_bytes bytes (faults.Sizes grid)
BreaksManyAt count at bytes (refusals.AfterGrids byte) = BreaksGrids count at max_grids_bytes bytes (faults.After byte)
BreaksManyAt count at bytes refusal = ⊥

abbrev pub BreaksMany : ℕ → List ℕ → Refusal → Type 0
BreaksMany count bytes refusal = BreaksManyAt count 0 bytes refusal
