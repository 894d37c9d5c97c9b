-- Grids of one size, one after the other.
use Rattle.std.specs.Prelude.{◌≡◌, ◌⊎◌, ℕ, ◌+◌, ◌-◌, ◌<◌, ◌≤◌, List, ◌++◌, All, IfSome, Result, Ok, Err, flat_map, length, map, ⊤}
use Rattle.std.specs.Global.{Vec}
use Rattle.insar_ports.specs.Bytes.{HasRisen}
use Rattle.insar_ports.specs.Calls.{Call}
use Rattle.text_lines.specs.Forms.{Form}
use Rattle.text_lines.specs.Reading.{HasBrokenLine, IsCutIn, StandsInFront, room_of}
use Rattle.grid_writer.specs.declared.fault.GridsFault.{GridsFault}
use Rattle.grid_writer.specs.declared.fault.GridsFault.TheVariants.{Line, Long, Sizes, After, ReadFault, Memory}
use Rattle.grid_writer.specs.declared.values.Grid.{Grid}
use Rattle.grid_writer.specs.Grids.{GridOf, IsGrid, IsGridText, grid_of, text_of_grid}

-- what grids tell, and their texts, one after the other
abbrev pub grids_of : List Grid → List GridOf
grids_of grids = map grid_of grids

abbrev pub text_of_grids : List GridOf → List ℕ
text_of_grids grids = flat_map text_of_grid grids

-- a grid of this size
abbrev pub HasSize : ℕ → ℕ → GridOf → Type 0
HasSize width height grid = (grid.width ≡ width) × (grid.height ≡ height)

-- so many grids within the limits, all of this size
pub record AreGrids (many width height : ℕ) (grids : List GridOf) : Type 0 where
  pub count : length grids ≡ many
  pub fit : All IsGrid grids
  pub alike : All (HasSize width height) grids

-- the texts of so many grids of one size
abbrev pub AreGridTexts : ℕ → Form
AreGridTexts count text = (width height : ℕ) × (grids : List GridOf) × (AreGrids count width height grids × (text ≡ text_of_grids grids))

-- the text of a grid of another size
abbrev pub IsOtherGridText : ℕ → ℕ → Form
IsOtherGridText width height text = (grid : GridOf) × (IsGrid grid × ((HasSize width height grid → ⊥) × (text ≡ text_of_grid grid)))

-- bytes, so many of which are let out, begin with grids of one size, all of which are let out; then `rest` follows
pub record BeginsWithGrids (room : ℕ) (bytes : List ℕ) : Type 0 where
  pub count : ℕ
  pub width : ℕ
  pub height : ℕ
  pub grids : List GridOf
  pub rest : List ℕ
  pub are : AreGrids count width height grids
  pub parts : bytes ≡ text_of_grids grids ++ rest
  pub inside : length (text_of_grids grids) ≤ room

-- of `count` grids so many are whole, and the next has this number
abbrev pub IsNext : ℕ → ℕ → ℕ → Type 0
IsNext count whole number = (whole < count) × (number ≡ whole + 1)

-- What breaks in `rest`, of which `room` bytes are let out, after so many whole grids of `count`, all of this size: a line of the
-- next grid; the limit, within that grid or after the last; its size; or a byte after the last grid. `place` is where `rest` begins.
abbrev pub BreaksNext : (count whole width height place room : ℕ) → List ℕ → GridsFault → Type 0
BreaksNext count whole width height place room rest (Line grid line) = IsNext count whole grid × HasBrokenLine IsGridText room line rest
BreaksNext count whole width height place room rest (Long grid) = (IsNext count whole grid × IsCutIn IsGridText room rest) ⊎ ((whole ≡ count) × ((grid ≡ count) × ((room ≡ 0) × (0 < length rest))))
BreaksNext count whole width height place room rest (Sizes grid) = IsNext count whole grid × ((0 < whole) × StandsInFront (IsOtherGridText width height) room rest)
BreaksNext count whole width height place room rest (After byte) = (whole ≡ count) × ((byte ≡ place) × ((0 < room) × (0 < length rest)))
BreaksNext count whole width height place room rest ReadFault = ⊥
BreaksNext count whole width height place room rest Memory = ⊥

-- The first break of bytes that should be the texts of `count` grids of one size. The bytes begin at the place `at`.
abbrev pub BreaksGrids : (count at room : ℕ) → List ℕ → GridsFault → Type 0
BreaksGrids count at room bytes fault = (b : BeginsWithGrids room bytes) × BreaksNext count b.count b.width b.height (at + length (text_of_grids b.grids)) (room - length (text_of_grids b.grids)) b.rest fault

-- Why so many grids were not read: where bytes are told, their first break; or a fault of the source was counted, or memory ran out.
abbrev pub HasGridsCause : ℕ → Call → GridsFault → Type 0
HasGridsCause count call (Line grid line) = IfSome call.told (λ bytes. BreaksGrids count call.at (room_of call) bytes (Line grid line))
HasGridsCause count call (Long grid) = IfSome call.told (λ bytes. BreaksGrids count call.at (room_of call) bytes (Long grid))
HasGridsCause count call (Sizes grid) = IfSome call.told (λ bytes. BreaksGrids count call.at (room_of call) bytes (Sizes grid))
HasGridsCause count call (After byte) = IfSome call.told (λ bytes. BreaksGrids count call.at (room_of call) bytes (After byte))
HasGridsCause count call ReadFault = HasRisen call.before call.after
HasGridsCause count call Memory = ⊤

-- they are read; or a fault of the source was counted, or memory ran out
abbrev pub GridsAreRead : Call → Result (Vec Grid) GridsFault → Type 0
GridsAreRead call (Ok grids) = ⊤
GridsAreRead call (Err (Line grid line)) = ⊥
GridsAreRead call (Err (Long grid)) = ⊥
GridsAreRead call (Err (Sizes grid)) = ⊥
GridsAreRead call (Err (After byte)) = ⊥
GridsAreRead call (Err ReadFault) = HasRisen call.before call.after
GridsAreRead call (Err Memory) = ⊤

-- this break is told; or one of the same happened
abbrev pub AreRefusedBy : Call → GridsFault → Result (Vec Grid) GridsFault → Type 0
AreRefusedBy call fault (Ok grids) = ⊥
AreRefusedBy call fault (Err (Line grid line)) = fault ≡ Line grid line
AreRefusedBy call fault (Err (Long grid)) = fault ≡ Long grid
AreRefusedBy call fault (Err (Sizes grid)) = fault ≡ Sizes grid
AreRefusedBy call fault (Err (After byte)) = fault ≡ After byte
AreRefusedBy call fault (Err ReadFault) = HasRisen call.before call.after
AreRefusedBy call fault (Err Memory) = ⊤

-- bytes have one first break, and the texts of so many grids that are all let out have none
abbrev pub OneGridsBreak : Type 0
OneGridsBreak = (count at room : ℕ) (bytes : List ℕ) (fault other : GridsFault) → BreaksGrids count at room bytes fault → BreaksGrids count at room bytes other → fault ≡ other

abbrev pub GridTextsDoNotBreak : Type 0
GridTextsDoNotBreak = (count at room : ℕ) (bytes : List ℕ) (fault : GridsFault) → AreGridTexts count bytes → length bytes ≤ room → BreaksGrids count at room bytes fault → ⊥
