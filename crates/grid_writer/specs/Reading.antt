-- What reading a grid promises.
use Rattle.std.specs.Prelude.{◌≡◌, ℕ, List, Some, Result, Ok, Err, ⊤}
use Rattle.insar_ports.specs.Bytes.{HasRisen}
use Rattle.insar_ports.specs.Calls.{Call}
use Rattle.text_lines.specs.declared.fault.LineFault.{LineFault}
use Rattle.text_lines.specs.declared.fault.LineFault.TheVariants.{Line, TooLong, ReadFault, Memory}
use Rattle.grid_writer.specs.declared.values.Grid.{Grid}
use Rattle.grid_writer.specs.Grids.{grid_of, text_of_grid}

-- a text is read as the grid that has it, and what follows is left; or a fault of the source was counted, or memory ran out
abbrev pub IsGridRead : Call → List ℕ → List ℕ → Result Grid LineFault → Type 0
IsGridRead call text rest (Ok g) = (text_of_grid (grid_of g) ≡ text) × (call.left ≡ Some rest)
IsGridRead call text rest (Err (Line n)) = ⊥
IsGridRead call text rest (Err TooLong) = ⊥
IsGridRead call text rest (Err ReadFault) = HasRisen call.before call.after
IsGridRead call text rest (Err Memory) = ⊤

-- a first broken line is told; or one of the same happened
abbrev pub IsGridRefusedAt : Call → ℕ → Result Grid LineFault → Type 0
IsGridRefusedAt call n (Ok g) = ⊥
IsGridRefusedAt call n (Err (Line m)) = m ≡ n
IsGridRefusedAt call n (Err TooLong) = ⊥
IsGridRefusedAt call n (Err ReadFault) = HasRisen call.before call.after
IsGridRefusedAt call n (Err Memory) = ⊤
