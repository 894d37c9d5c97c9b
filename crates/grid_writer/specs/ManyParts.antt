-- Words of the parts of `read_grids`.
use Rattle.std.specs.Prelude.{◌≡◌, ℕ, ◌<◌, List, All, length, ⊤}
use Rattle.insar_ports.specs.Bytes.{HasMore, HasRisen}
use Rattle.insar_ports.specs.Calls.{Call, Takes}
use Rattle.text_lines.specs.declared.fault.LineFault.{LineFault}
use Rattle.text_lines.specs.declared.fault.LineFault.TheVariants as line_faults
use Rattle.text_lines.specs.Reading.{HasLineCause}
use Rattle.grid_writer.specs.declared.fault.GridsFault.{GridsFault}
use Rattle.grid_writer.specs.declared.fault.GridsFault.TheVariants.{Line, Long, Sizes, After, ReadFault, Memory}
use Rattle.grid_writer.specs.declared.values.Grid.{Grid}
use Rattle.grid_writer.specs.Grids.{IsGridText, grid_of}
use Rattle.grid_writer.specs.ManyGrids.{HasSize, IsOtherGridText}

-- a fault in the grid with this number
abbrev pub fault_in : ℕ → LineFault → GridsFault
fault_in number (line_faults.Line line) = Line number line
fault_in number line_faults.TooLong = Long number
fault_in number line_faults.ReadFault = ReadFault
fault_in number line_faults.Memory = Memory

-- a grid has the size of those in a list, if there are some
abbrev pub AreAlike : List Grid → Grid → Type 0
AreAlike grids grid = (width height : ℕ) → All (λ g. HasSize width height (grid_of g)) grids → 0 < length grids → HasSize width height (grid_of grid)

-- a grid was taken whose size is not that of the grids in a list
abbrev pub TakesOther : List Grid → Call → Type 0
TakesOther grids call = (0 < length grids) × ((width height : ℕ) → All (λ g. HasSize width height (grid_of g)) grids → Takes call (λ text rest. IsOtherGridText width height text))

-- why the grid with this number was not added to a list of grids
abbrev pub HasNextGridCause : ℕ → List Grid → Call → GridsFault → Type 0
HasNextGridCause number grids call (Line grid line) = (grid ≡ number) × HasLineCause IsGridText 0 call (line_faults.Line line)
HasNextGridCause number grids call (Long grid) = (grid ≡ number) × HasLineCause IsGridText 0 call line_faults.TooLong
HasNextGridCause number grids call (Sizes grid) = (grid ≡ number) × TakesOther grids call
HasNextGridCause number grids call (After byte) = ⊥
HasNextGridCause number grids call ReadFault = HasRisen call.before call.after
HasNextGridCause number grids call Memory = ⊤

-- why the input does not end after the last grid, which has this number
abbrev pub HasEndCause : ℕ → Call → GridsFault → Type 0
HasEndCause last call (Line grid line) = ⊥
HasEndCause last call (Long grid) = (grid ≡ last) × ((call.at ≡ call.limit) × HasMore call.told)
HasEndCause last call (Sizes grid) = ⊥
HasEndCause last call (After byte) = (byte ≡ call.at) × ((call.at < call.limit) × HasMore call.told)
HasEndCause last call ReadFault = HasRisen call.before call.after
HasEndCause last call Memory = ⊥
