-- The scripts of a session: how much they ask for, and that their rectangles lie in the raster.
use Rattle.std.specs.Prelude.{◌≡◌, ℕ, ◌<◌, ◌≤◌, Bool, true, false, List, sum_by, count_by, slice_get, Some}
use Rattle.raster_model.specs.declared.script.Command.{Command}
use Rattle.raster_model.specs.declared.script.Command.TheVariants.{Change, Settle, Show}
use Rattle.raster_model.specs.declared.script.Edit.{Edit}
use Rattle.raster_model.specs.declared.script.Edit.TheVariants.{Mask, Unmask}
use Rattle.raster_model.specs.declared.script.Rect.{Rect}
use Rattle.raster_model.specs.declared.script.Script.{Script}
use Rattle.raster_model.specs.Limits.{max_commands}

-- how many settle commands and how many change commands all scripts have
abbrev pub is_settle : Command → Bool
is_settle (Change edit) = false
is_settle Settle = true
is_settle Show = false

abbrev pub is_change : Command → Bool
is_change (Change edit) = true
is_change Settle = false
is_change Show = false

abbrev pub settles_in : List Script → ℕ
settles_in scripts = sum_by (λ script. count_by is_settle script.commands.items) scripts

abbrev pub changes_in : List Script → ℕ
changes_in scripts = sum_by (λ script. count_by is_change script.commands.items) scripts

-- the pixels that an edit masks or opens, both corners included
abbrev pub rect_of : Edit → Rect
rect_of (Mask rect) = rect
rect_of (Unmask rect) = rect

-- the rectangle lies in a raster of w by h pixels
abbrev pub IsRectIn : ℕ → ℕ → Rect → Type 0
IsRectIn width height rect = (rect.x0 ≤ rect.x1) × (rect.x1 < width) × (rect.y0 ≤ rect.y1) × (rect.y1 < height)

-- the rectangles of all edits in a list of commands do, and those in all scripts
abbrev pub CommandsFit : ℕ → ℕ → List Command → Type 0
CommandsFit width height commands = (k : ℕ) (edit : Edit) → slice_get commands k ≡ Some (Change edit) → IsRectIn width height (rect_of edit)

abbrev pub ScriptsFit : ℕ → ℕ → List Script → Type 0
ScriptsFit width height scripts = (k : ℕ) (script : Script) → slice_get scripts k ≡ Some script → CommandsFit width height script.commands.items

-- no script has more than 4096 commands
abbrev pub ScriptsAreShort : List Script → Type 0
ScriptsAreShort scripts = (k : ℕ) (script : Script) → slice_get scripts k ≡ Some script → script.commands.len ≤ max_commands
