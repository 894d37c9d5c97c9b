-- Of whole lines it can be told what they are for the form of the text: a text of it, the front of one, or the front of none.
use Rattle.std.proofs.Common.{◌≡◌, ℕ, ◌-◌, IsTrue, List, ◌++◌, length, inl, sym, subst}
use Rattle.std.specs.Prelude.{codes}
use Rattle.std.proofs.lemmas.Bool.{cases_eq}
use Rattle.raster_model.specs.Limits.{is_raster_size}
use Rattle.text_lines.specs.Numbers.{AreLongs, numbers_text}
use Rattle.text_lines.specs.Parsing.{IsWide}
use Rattle.text_lines.specs.Text.{field_text}
use Rattle.text_lines.proofs.BreakLemmas.{IsDecided, decided_after, decided_same, parts_decided}
use Rattle.text_lines.proofs.NumberLemmas.{numbers_unique}
use Rattle.text_lines.proofs.TellLemmas.{numbers_told}
use Rattle.grid_writer.proofs.TellLemmas.{wide_decided}
use Rattle.text_parts.specs.Reading.{TextOrBrokenLine}
use Rattle.text_parts.specs.Steps.{TextOf}
use Rattle.text_parts.proofs.DecideLemmas.{first_begins, kind_decided, lines_decided, part_begins, turn_decided}
use Rattle.text_parts.proofs.PartForms.{ramp_kind, rule_kind, steep_kind, values_part, whole_size_kind}
use Rattle.text_parts.proofs.ReadsLemmas.{line_part}
use Rattle.text_parts.proofs.TellLemmas.{Tells, behind_told, both_told, known_told, last_told, narrow_told, ramp_told, rule_told, steep_told, whole_size_told, wide_told}
use Rattle.text_parts.proofs.TextBreaks.{text_or_broken_line}
use Rattle.whole_text.specs.Parts.{AreRows, IsFacesRow, IsHead, head_parts, lines_of_rows}
use Rattle.whole_text.specs.Text.{AreCellFaces, IsWholeText, cell_rows, cost_line, face_row, face_rows}
use Rattle.whole_text.proofs.Forms.{IsTail, RestOf, cells_part, cells_same, cost_from, cost_kind, end_kind, end_part, first_kind, head_part, inside, ramp_part, rest_after, row_kind, rule_part, size_part, steep_part, tail_text, whole_code, whole_first}

-- ---- lines

cost_told : Tells IsWide cost_line
cost_told = behind_told IsWide field_text (codes "cost") (last_told IsWide (λ n w. w) wide_told)

row_told : (across : ℕ) → Tells (IsFacesRow across) face_row
row_told across =
    behind_told (IsFacesRow across) numbers_text (codes "faces")
    (narrow_told AreLongs (IsFacesRow across) numbers_text numbers_unique (λ row a. a.0) (λ row longs. both_told (AreLongs row) (length row ≡ across) (inl longs) (cases_eq (length row) across)) numbers_told)

-- ---- parts

head_decided : IsDecided (TextOf IsHead head_parts)
head_decided =
    turn_decided (line_part first_kind) size_part (kind_decided first_kind (known_told (codes "insar-whole 1") tt))
    (turn_decided (line_part whole_size_kind) rule_part (kind_decided whole_size_kind whole_size_told)
    (turn_decided (line_part rule_kind) ramp_part (kind_decided rule_kind rule_told)
    (turn_decided (line_part ramp_kind) steep_part (kind_decided ramp_kind ramp_told) (turn_decided (line_part steep_kind) cost_from (kind_decided steep_kind steep_told) (kind_decided cost_kind cost_told)))))

cells_decided : (width height : ℕ) → IsDecided (TextOf (AreCellFaces width height) (face_rows width height))
cells_decided width height t w =
    let across = width - 1 in
    let rows = cell_rows width height in
    let kind = row_kind across in
    decided_same (TextOf (AreRows across rows) (lines_of_rows rows)) (TextOf (AreCellFaces width height) (face_rows width height)) (cells_same width height) t (lines_decided (IsFacesRow across) (λ y. face_row) rows (inside across rows) kind.some (λ y _. row_told across) t w)

tail_decided : (width height : ℕ) → IsTrue (is_raster_size width height) → IsDecided (TextOf (IsTail width height) (tail_text width height))
tail_decided width height z =
    turn_decided (values_part width height z) (end_part width height) (wide_decided width height z) (turn_decided (cells_part width height) (line_part end_kind) (cells_decided width height) (kind_decided end_kind (known_told (codes "end") tt)))

-- ---- the whole

whole_decided : IsDecided IsWholeText
whole_decided =
    parts_decided (TextOf IsHead head_parts) IsWholeText whole_first
    (λ q a. let head = a.1.0 in subst (λ (l : List ℕ). IsDecided (λ (t : List ℕ). IsWholeText (l ++ t))) (sym a.1.1) (decided_after (head_parts a.0) (RestOf a.0) IsWholeText (rest_after a.0 head) (tail_decided a.0.1.0.0 a.0.1.0.1 head.1.0)))
    head_decided (part_begins head_part)

pub whole_or_broken_line : TextOrBrokenLine IsWholeText
whole_or_broken_line = text_or_broken_line IsWholeText whole_code whole_decided (first_begins (TextOf IsHead head_parts) IsWholeText whole_first (part_begins head_part))
