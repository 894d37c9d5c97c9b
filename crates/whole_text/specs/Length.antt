-- How long the text of a surface can be.
use Rattle.std.specs.Prelude.{◌+◌, ◌*◌, ◌≤◌, length}
use Rattle.whole_text.specs.Text.{IsWhole, WholeOf, whole_text}

-- a pixel has a value and a face, of at most 20 characters each, with what stands between them; 1,024 bytes are enough for the other lines
abbrev pub WholeTextsAreShort : Type 0
WholeTextsAreShort = (whole : WholeOf) → IsWhole whole → length (whole_text whole) ≤ 43 * (whole.width * whole.height) + 1024
