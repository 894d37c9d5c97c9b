-- Parts of texts, and what their readers return: words of helpers.
use Rattle.std.specs.Prelude.{◌≡◌, ℕ, ℤ, List, ◌++◌, Option, MatchOption, ◌≢◌, ◌⊎◌, ◌+◌, IsTrue, [], ◌∷◌, All, ⊤}
use Rattle.std.specs.Global.{Vec}
use Rattle.insar_ports.specs.Bytes.{HasMore, HasRisen}
use Rattle.insar_ports.specs.Calls.{Call, Takes}
use Rattle.insar_ports.specs.Lines.{IsInLine}
use Rattle.text_lines.specs.declared.fault.LineFault.{LineFault}
use Rattle.raster_model.specs.Limits.{is_raster_size, is_tiled_size, IsSlope, IsSteepness}
use Rattle.raster_model.specs.Sums.{Field}
use Rattle.grid_writer.specs.declared.values.Grid.{Grid}
use Rattle.grid_writer.specs.Grids.{value_at}
use Rattle.text_parts.specs.Steps.{both, in_turn}
use Rattle.text_parts.specs.Text.{ended_line, ramp_line, steep_line}
use Rattle.text_lines.specs.declared.fault.LineFault.TheVariants as faults

-- the bytes are the text of a list of numbers that may stand; or they are the text of none
abbrev pub IsListParsedAs : (List ℤ → Type 0) → (List ℤ → List ℕ) → List ℕ → Option (Vec ℤ) → Type 0
IsListParsedAs MayStand text bytes result = MatchOption result ((numbers : List ℤ) → MayStand numbers → bytes ≡ text numbers → ⊥) (λ v. MayStand v.items × (bytes ≡ text v.items))

-- which values lines may have: the size of a raster that has tiles, and of one that has none; a ramp
abbrev pub IsRasterSize : ℕ × ℕ → Type 0
IsRasterSize size = IsTrue (is_tiled_size size.0 size.1)

abbrev pub IsWholeSize : ℕ × ℕ → Type 0
IsWholeSize size = IsTrue (is_raster_size size.0 size.1)

abbrev pub IsRamp : ℤ × ℤ → Type 0
IsRamp ramp = IsSlope ramp.0 × IsSlope ramp.1

-- a ramp and then a steepness, and their lines
abbrev pub AreTold : (ℤ × ℤ) × ℕ → Type 0
AreTold = both IsRamp IsSteepness

abbrev pub told_text : (ℤ × ℤ) × ℕ → List ℕ
told_text = in_turn (ended_line ramp_line) (ended_line steep_line)

-- what readers of parts return, as its text tells it
abbrev pub list_in : Vec ℤ → List ℤ
list_in list = list.items

abbrev pub values_in : Grid → Field ℤ
values_in grid = value_at grid.width grid.values.items

abbrev pub rows_of : ℕ → Vec ℤ → Field ℤ
rows_of width values = value_at width values.items

-- why the input did not end: another line is there, whole or cut, or the limit cuts one
abbrev pub IsLineMore : List ℕ → List ℕ → Type 0
IsLineMore text rest = ((line : List ℕ) × (All IsInLine line × (text ≡ line ++ 10 ∷ []))) ⊎ (All IsInLine text × ((text ≢ []) × (rest ≡ [])))

abbrev pub HasMoreCause : ℕ → Call → LineFault → Type 0
HasMoreCause done call (faults.Line n) = (n ≡ done + 1) × Takes call IsLineMore
HasMoreCause done call faults.TooLong = (call.end ≡ call.limit) × (HasMore call.left × Takes call (λ text rest. All IsInLine text))
HasMoreCause done call faults.ReadFault = HasRisen call.before call.after
HasMoreCause done call faults.Memory = ⊤
