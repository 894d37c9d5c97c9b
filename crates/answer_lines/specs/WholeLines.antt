-- The lines that tell verdicts on texts of whole surfaces, each ended by LF.
use Rattle.std.specs.Prelude.{List, ℕ, [], ◌∷◌, ◌++◌, codes}
use Rattle.text_lines.specs.Text.{field_text}
use Rattle.whole_check.specs.declared.verdict.WholeVerdict.{WholeVerdict}
use Rattle.whole_check.specs.declared.verdict.WholeVerdict.TheVariants.{Accepted, Header, Value, Face, Cost, Told}
use Rattle.answer_lines.specs.VerdictLines.{edge_text}

abbrev pub whole_verdict_text : WholeVerdict → List ℕ
whole_verdict_text Accepted = codes "accepted"
whole_verdict_text (Header n) = codes "refused header" ++ field_text n
whole_verdict_text (Value x y) = codes "refused value" ++ (field_text x ++ field_text y)
whole_verdict_text (Face e) = codes "refused face" ++ edge_text e
whole_verdict_text (Cost cost bound) = codes "refused cost"
whole_verdict_text (Told written counted) = codes "refused told"

-- the line of a verdict
abbrev pub whole_verdict_line : WholeVerdict → List ℕ
whole_verdict_line verdict = whole_verdict_text verdict ++ 10 ∷ []
