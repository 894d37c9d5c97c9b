-- The lines that several texts have: the size of a raster, a rule of weights, and the terms.
use Rattle.std.specs.Prelude.{ℕ, ℤ, List, [], ◌∷◌, ◌++◌, codes}
use Rattle.raster_model.specs.declared.weights.RuleKind.{RuleKind}
use Rattle.text_lines.specs.Numbers.{number_text}
use Rattle.text_lines.specs.Text.{field_text, rule_word}

-- the end of a line
abbrev pub line_end : List ℕ
line_end = 10 ∷ []

-- lines, each without its end: a text that is known, a size, a rule, a ramp, a steepness
abbrev pub known_line : {A : Type 0} → List ℕ → A → List ℕ
known_line text a = text

abbrev pub size_line : ℕ × ℕ → List ℕ
size_line size = codes "size" ++ (field_text size.0 ++ field_text size.1)

abbrev pub rule_line : RuleKind → List ℕ
rule_line rule = codes "rule " ++ rule_word rule

abbrev pub ramp_line : ℤ × ℤ → List ℕ
ramp_line ramp = codes "ramp" ++ (number_text ramp.0 ++ number_text ramp.1)

abbrev pub steep_line : ℕ → List ℕ
steep_line steep = codes "steep" ++ field_text steep

-- with its end
abbrev pub ended_line : {A : Type 0} → (A → List ℕ) → A → List ℕ
ended_line line a = line a ++ line_end
