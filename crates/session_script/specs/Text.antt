-- The text that a session is written as.
use Rattle.std.specs.Prelude.{ℕ, Bool, if◌then◌else◌, List, [], ◌∷◌, ◌++◌, codes, flat_map}
use Rattle.raster_model.specs.declared.script.Command.{Command}
use Rattle.raster_model.specs.declared.script.Command.TheVariants.{Change, Settle, Show}
use Rattle.raster_model.specs.declared.script.Edit.TheVariants.{Mask, Unmask}
use Rattle.raster_model.specs.MaskView.{MaskView}
use Rattle.raster_model.specs.Masks.{open_at}
use Rattle.pgm_planes.specs.Text.{plane_header_text, plane_text}
use Rattle.text_lines.specs.Text.{rect_text, texts_below}
use Rattle.session_script.specs.declared.word.Word.{Word}
use Rattle.session_script.specs.declared.word.Word.TheVariants as words
use Rattle.session_script.specs.Sections.{Sections}
use Rattle.session_script.specs.Sessions.{SessionOf}

abbrev pub command_text : Command → List ℕ
command_text (Change (Mask rect)) = codes "mask" ++ rect_text rect
command_text (Change (Unmask rect)) = codes "unmask" ++ rect_text rect
command_text Settle = codes "settle"
command_text Show = codes "show"

abbrev pub word_text : Word → List ℕ
word_text words.Analyst = codes "analyst"
word_text words.End = codes "end"
word_text (words.Command command) = command_text command

-- a line with its line feed
abbrev pub line_text : Word → List ℕ
line_text word = word_text word ++ 10 ∷ []

abbrev pub command_line : Command → List ℕ
command_line command = line_text (words.Command command)

abbrev pub section_text : List Command → List ℕ
section_text commands = line_text words.Analyst ++ flat_map command_line commands

-- 0 at masked pixels and 1 at open ones
abbrev pub sample_of : Bool → ℕ
sample_of unmasked = if unmasked then 1 else 0

abbrev pub mask_row_text : MaskView → ℕ → List ℕ
mask_row_text view y = texts_below view.width (λ x. sample_of (open_at view x y) ∷ [])

-- the mask as a raw plane with the maxval 1
abbrev pub mask_text : MaskView → List ℕ
mask_text view = plane_header_text view.width view.height 1 ++ texts_below view.height (mask_row_text view)

-- the scripts of a session that has an analyst
abbrev pub scripts_text : Sections → List ℕ
scripts_text sections = flat_map section_text sections ++ line_text words.End

unfoldable pub session_text : SessionOf → List ℕ
session_text session = plane_text session.phase ++ (plane_text session.weights ++ (mask_text session.mask ++ scripts_text session.scripts))
