-- The sections of a script part: the analysts' commands, the words of their lines, and the limits.
use Rattle.std.specs.Prelude.{ℕ, ◌+◌, ◌-◌, ◌*◌, ◌≤◌, ◌==◌, ◌&&◌, not, nat_lt, Bool, if◌then◌else◌, List, [], ◌∷◌, ◌++◌, length, map, flat_map, sum_by, count_by, slice_index_or, slice_set, Option, Some, None}
use Rattle.std.specs.List.{AllByRecursion}
use Rattle.raster_model.specs.declared.script.Command.{Command}
use Rattle.raster_model.specs.declared.script.Command.TheVariants.{Change, Settle, Show}
use Rattle.raster_model.specs.declared.script.Rect.{Rect}
use Rattle.raster_model.specs.declared.script.Script.{Script}
use Rattle.raster_model.specs.declared.tiling.Tiling.{Tiling}
use Rattle.raster_model.specs.Scripts.{CommandsFit, is_settle, is_change, rect_of}
use Rattle.raster_model.specs.Tiles.{tiles_of}
use Rattle.pgm_planes.specs.declared.fault.InputFault.{InputFault}
use Rattle.pgm_planes.specs.declared.fault.InputFault.TheVariants.{ScriptLine, Outside, TooManyAnalysts, TooManyCommands, SettleLimit, EditLimit}
use Rattle.session_script.specs.declared.frame.ScriptFrame.{ScriptFrame}
use Rattle.session_script.specs.declared.word.Word.{Word}
use Rattle.session_script.specs.declared.word.Word.TheVariants as words
use Rattle.raster_model.specs.Limits.{max_changed_tiles, max_commands, max_settled_pixels}

-- the commands of each analyst, in order
abbrev pub Sections : Type 0
Sections = List (List Command)

abbrev pub sections_of : List Script → Sections
sections_of scripts = map (λ script. script.commands.items) scripts

-- the words of their lines: for each analyst the line with which the section begins, and the commands
abbrev pub command_words : List Command → List Word
command_words commands = map words.Command commands

abbrev pub section_words : List Command → List Word
section_words commands = words.Analyst ∷ command_words commands

abbrev pub words_of : Sections → List Word
words_of sections = flat_map section_words sections

-- how many lines these are, and how many of them settle and change the mask
abbrev pub line_count : Sections → ℕ
line_count sections = length (words_of sections)

abbrev pub settles_of : Sections → ℕ
settles_of sections = sum_by (count_by is_settle) sections

abbrev pub changes_of : Sections → ℕ
changes_of sections = sum_by (count_by is_change) sections

-- the raster that the scripts are for: its size, how many pixels a settle command settles, and how many tiles a change
-- command changes
pub record Frame : Type 0 where
  pub width : ℕ
  pub height : ℕ
  pub settled : ℕ
  pub changed : ℕ

abbrev pub frame_of : ScriptFrame → Frame
frame_of frame = record { width = frame.width; height = frame.height; settled = frame.settled; changed = frame.changed }

-- the raster of a tiling, all of whose pixels a settle command settles, and all of whose tiles a change command may change
abbrev pub frame_of_tiling : Tiling → Frame
frame_of_tiling tiling = record { width = tiling.width; height = tiling.height; settled = tiling.width * tiling.height; changed = tiles_of tiling }

-- a raster without tiles, whose scripts are not run: their commands count nothing
abbrev pub whole_frame : ℕ → ℕ → Frame
whole_frame width height = record { width = width; height = height; settled = 0; changed = 0 }

-- within the limits of a session
pub record AreWithinLimits (frame : Frame) (sections : Sections) : Type 0 where
  pub analysts : length sections ≤ 8
  pub short : AllByRecursion (λ commands. length commands ≤ max_commands) sections
  pub inside : AllByRecursion (CommandsFit frame.width frame.height) sections
  pub settles : settles_of sections * frame.settled ≤ max_settled_pixels
  pub changes : changes_of sections * frame.changed ≤ max_changed_tiles

-- and not without an analyst
abbrev pub AreComplete : Frame → Sections → Type 0
AreComplete frame sections = (1 ≤ length sections) × AreWithinLimits frame sections

-- the rectangle lies in the raster
abbrev pub lies_in : Frame → Rect → Bool
lies_in frame rect = not (nat_lt rect.x1 rect.x0) && nat_lt rect.x1 frame.width && not (nat_lt rect.y1 rect.y0) && nat_lt rect.y1 frame.height

-- the commands of the last analyst
abbrev pub last_commands : Sections → List Command
last_commands sections = slice_index_or sections (length sections - 1) []

-- What is wrong with a command in line n after some sections: it belongs to no analyst, its analyst has 4096 commands
-- already, its rectangle does not lie in the raster, or it passes a limit of all analysts. The first of these is told.
abbrev pub limit_broken : Frame → ℕ → Sections → Command → Option InputFault
limit_broken frame n sections (Change edit) = if not (lies_in frame (rect_of edit)) then Some (Outside n) else (if nat_lt max_changed_tiles ((changes_of sections + 1) * frame.changed) then Some (EditLimit n) else None)
limit_broken frame n sections Settle = if nat_lt max_settled_pixels ((settles_of sections + 1) * frame.settled) then Some (SettleLimit n) else None
limit_broken frame n sections Show = None

abbrev pub command_broken : Frame → ℕ → Sections → Command → Option InputFault
command_broken frame n sections command = if length sections == 0 then Some (ScriptLine n) else (if nat_lt 4095 (length (last_commands sections)) then Some (TooManyCommands n) else limit_broken frame n sections command)

-- what is wrong with a word in line n after some sections
abbrev pub word_broken : Frame → ℕ → Sections → Word → Option InputFault
word_broken frame n sections words.Analyst = if nat_lt 7 (length sections) then Some (TooManyAnalysts n) else None
word_broken frame n sections words.End = None
word_broken frame n sections (words.Command command) = command_broken frame n sections command

-- the sections with one more word: a section begins, or the last one goes on
abbrev pub with_command : Command → Sections → Sections
with_command command sections = slice_set sections (length sections - 1) (last_commands sections ++ command ∷ [])

abbrev pub with_word : Word → Sections → Sections
with_word words.Analyst sections = sections ++ [] ∷ []
with_word words.End sections = sections
with_word (words.Command command) sections = with_command command sections
