-- Why the text of a surface over the whole raster is not read, and what reading it promises.
use Rattle.std.specs.Prelude.{◌≡◌, ℕ, ◌<◌, List, Result}
use Rattle.insar_ports.specs.Calls.{Call}
use Rattle.text_lines.specs.declared.fault.LineFault.{LineFault}
use Rattle.grid_writer.specs.Grids.{value_at}
use Rattle.text_parts.specs.Reading.{BrokenTextLineIsOne, HasBrokenTextLine, HasTextCause, IsTextRead, IsTextRefusedAt}
use Rattle.text_parts.specs.Terms.{terms_of}
use Rattle.whole_text.specs.declared.whole.Whole.{Whole}
use Rattle.whole_text.specs.Text.{IsWhole, IsWholeText, WholeOf, whole_text}

-- what was read, as its text tells it
abbrev pub whole_told : Whole → WholeOf
whole_told whole = record { width = whole.width; height = whole.height; rule = whole.rule; terms = terms_of whole.terms; cost = whole.cost; values = value_at whole.width whole.values.items; faces = whole.faces.items }

-- Where bytes are told: those that were taken end with the first line with which no such text begins, or the input ends in a line
-- that is cut or missing; or the limit cuts a line. Otherwise a fault of the source was counted, or memory ran out.
abbrev pub HasWholeCause : Call → LineFault → Type 0
HasWholeCause call fault = HasTextCause IsWholeText call fault

-- of bytes of which so many are let out, line n is the first that breaks the form
abbrev pub HasBrokenWholeLine : ℕ → ℕ → List ℕ → Type 0
HasBrokenWholeLine room n bytes = HasBrokenTextLine IsWholeText room n bytes

-- a text is read as what has it, and nothing is left; or a fault of the source was counted, or memory ran out
abbrev pub IsWholeRead : Call → List ℕ → Result Whole LineFault → Type 0
IsWholeRead call bytes result = IsTextRead whole_told whole_text call bytes result

-- a first broken line is told; or one of the same happened
abbrev pub IsWholeRefusedAt : Call → ℕ → Result Whole LineFault → Type 0
IsWholeRefusedAt call n result = IsTextRefusedAt call n result

-- bytes have no two first broken lines, however many are let out, and a whole text has none
abbrev pub BrokenWholeLineIsOne : Type 0
BrokenWholeLineIsOne = BrokenTextLineIsOne IsWholeText

-- two are equal: size, rule, terms, cost, the values on the raster, faces
pub record IsSameWhole (v w : WholeOf) : Type 0 where
  pub width : v.width ≡ w.width
  pub height : v.height ≡ w.height
  pub rule : v.rule ≡ w.rule
  pub terms : v.terms ≡ w.terms
  pub cost : v.cost ≡ w.cost
  pub values : (x y : ℕ) → x < v.width → y < v.height → v.values x y ≡ w.values x y
  pub faces : v.faces ≡ w.faces

-- no two have one text
abbrev pub WholeTextsAreUnique : Type 0
WholeTextsAreUnique = (v w : WholeOf) → IsWhole v → IsWhole w → whole_text v ≡ whole_text w → IsSameWhole v w
