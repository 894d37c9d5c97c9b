-- The parts of the text: words of helpers, which no clause of a public function cites.
use Rattle.std.specs.Prelude.{◌≡◌, ℕ, ◌<◌, ℤ, List, codes, length}
use Rattle.std.specs.Global.{Vec}
use Rattle.raster_model.specs.declared.weights.RuleKind.{RuleKind}
use Rattle.raster_model.specs.Limits.{IsSteepness}
use Rattle.text_lines.specs.Numbers.{AreLongs}
use Rattle.text_lines.specs.Parsing.{IsAnyRule, IsWide}
use Rattle.text_lines.specs.Text.{texts_below}
use Rattle.text_parts.specs.Parts.{IsRamp, IsWholeSize}
use Rattle.text_parts.specs.Steps.{both, in_turn}
use Rattle.text_parts.specs.Text.{ended_line, known_line, ramp_line, rule_line, size_line, steep_line}
use Rattle.whole_text.specs.declared.read.Head.{Head}
use Rattle.whole_text.specs.Text.{cost_line, face_row, row_of}

-- the lines before the grid: the known one, then size, rule, ramp, steepness and cost
abbrev pub HeadOf : Type 0
HeadOf = Unit {0} × ((ℕ × ℕ) × (RuleKind × ((ℤ × ℤ) × (ℕ × ℕ))))

abbrev pub IsHead : HeadOf → Type 0
IsHead = both IsAnyRule (both IsWholeSize (both IsAnyRule (both IsRamp (both IsSteepness IsWide))))

abbrev pub head_parts : HeadOf → List ℕ
head_parts = in_turn (ended_line (known_line (codes "insar-whole 1"))) (in_turn (ended_line size_line) (in_turn (ended_line rule_line) (in_turn (ended_line ramp_line) (in_turn (ended_line steep_line) (ended_line cost_line)))))

abbrev pub head_in : Head → HeadOf
head_in h = (tt, ((h.width, h.height), (h.rule, ((h.terms.ramp_x, h.terms.ramp_y), (h.terms.steep, h.cost)))))

-- a row of faces; rows of faces, one for each number below a number, and their lines
abbrev pub IsFacesRow : ℕ → List ℤ → Type 0
IsFacesRow across row = AreLongs row × (length row ≡ across)

abbrev pub AreRows : ℕ → ℕ → (ℕ → List ℤ) → Type 0
AreRows across rows f = (y : ℕ) → y < rows → IsFacesRow across (f y)

abbrev pub lines_of_rows : ℕ → (ℕ → List ℤ) → List ℕ
lines_of_rows rows f = texts_below rows (λ y. ended_line face_row (f y))

abbrev pub rows_in : ℕ → Vec ℤ → ℕ → List ℤ
rows_in across faces = row_of across faces.items
