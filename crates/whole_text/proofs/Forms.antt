-- The text of a surface over the whole raster as a form: the lines before the grid, and then grid, faces and the line `end`.
use Rattle.std.proofs.Common.{◌≡◌, ℕ, ◌-◌, ◌+◌, ◌*◌, ◌≤◌, ◌<◌, ℤ, pos, IsTrue, List, [], ◌∷◌, ◌++◌, length, inl, refl, sym, ap, ◌∙◌, arith}
use Rattle.std.specs.Prelude.{codes}
use Rattle.std.proofs.lemmas.List.{append_cancel_left, length-append}
use Rattle.std.proofs.lemmas.List.Elements.{All-from_recursion}
use Rattle.raster_model.specs.Limits.{IsSteepness, is_raster_size}
use Rattle.raster_model.specs.Sums.{Field}
use Rattle.insar_ports.specs.Lines.{IsInLine}
use Rattle.text_lines.specs.Forms.{Form}
use Rattle.text_lines.specs.Numbers.{AreLongs, FitsLong, numbers_text}
use Rattle.text_lines.specs.Parsing.{IsAnyRule, IsWide}
use Rattle.text_lines.specs.Text.{field_text}
use Rattle.text_lines.proofs.FieldLemmas.{all_both, last_unique}
use Rattle.text_lines.proofs.FormLemmas.{ComesAfter, ComesFirst, InLine}
use Rattle.text_lines.proofs.NumberLemmas.{row_numbers}
use Rattle.text_lines.proofs.NumberLines.{line_short, text_in_line, zero_long}
use Rattle.text_lines.proofs.SeqLemmas.{IsCode, SameForms, first_same, same_code}
use Rattle.grid_writer.specs.Grid.{grid_text}
use Rattle.grid_writer.specs.Grids.{AreLong}
use Rattle.text_parts.specs.Parts.{IsRamp, IsWholeSize}
use Rattle.text_parts.specs.Steps.{TextOf, both, in_turn}
use Rattle.text_parts.specs.Terms.{TermsOf}
use Rattle.text_parts.specs.Text.{ended_line, known_line, ramp_line, rule_line, size_line, steep_line}
use Rattle.text_parts.proofs.LineForms.{line_first, lines_after, lines_part}
use Rattle.text_parts.proofs.LineLemmas.{Fits, fits_both, fits_more, wide_fits, word_fits, word_in_line}
use Rattle.text_parts.proofs.PartForms.{known_kind, ramp_kind, rule_kind, steep_kind, values_part, whole_size_kind}
use Rattle.text_parts.proofs.ReadsLemmas.{IsLineKind, IsPart, One, Then, after_same, line_one, line_part, short_kind, then_after, then_apart, then_code, then_first, turn_one, turn_part}
use Rattle.text_parts.proofs.UniqueLemmas.{ramp_unique, rule_unique, steep_unique, whole_size_unique}
use Rattle.whole_text.specs.Parts.{AreRows, HeadOf, IsFacesRow, IsHead, head_parts, lines_of_rows}
use Rattle.whole_text.specs.Text.{AreCellFaces, IsWhole, IsWholeText, WholeOf, cell_rows, cost_line, face_row, face_rows, row_of, whole_text}
use Rattle.whole_text.proofs.RowLemmas.{cells_stand, faces_are, list_length, list_longs, list_of, rows_make, rows_told}

-- ---- kinds of lines

pub first_kind : IsLineKind IsAnyRule (known_line {A = Unit {0}} (codes "insar-whole 1")) 13
first_kind = known_kind (codes "insar-whole 1") tt (word_in_line (codes "insar-whole 1") refl)

pub end_kind : IsLineKind IsAnyRule (known_line {A = Unit {0}} (codes "end")) 3
end_kind = known_kind (codes "end") tt (word_in_line (codes "end") refl)

cost_fits : (cost : ℕ) → IsWide cost → Fits 128 (cost_line cost)
cost_fits cost w = fits_more (fits_both (word_fits (codes "cost") refl) (wide_fits cost w)) (omega arith)

pub cost_kind : IsLineKind IsWide cost_line 128
cost_kind = short_kind (0, omega arith) cost_fits

pub cost_unique : (m n : ℕ) → IsWide m → IsWide n → cost_line m ≡ cost_line n → m ≡ n
cost_unique m n a b e = last_unique m n a b (append_cancel_left (codes "cost") (field_text m) (field_text n) e)

faces_inside : (row : List ℤ) → AreLongs row → InLine (face_row row)
faces_inside row longs = all_both IsInLine (codes "faces") (numbers_text row) (word_in_line (codes "faces") refl) (text_in_line row longs)

numbers_short : (row : List ℤ) → AreLongs row → length (numbers_text row) ≤ 1 + 21 * length row
numbers_short [] longs = omega arith
numbers_short (n ∷ row) longs = let e = ap length (row_numbers (n ∷ row) (omega arith)) in let most = line_short (n ∷ row) longs in omega (arith, e, most)

-- a row of zeros
abbrev zero_row : ℕ → List ℤ
zero_row across = list_of across (λ t. pos 0 ∷ [])

zeros_stand : (across : ℕ) → IsFacesRow across (zero_row across)
zeros_stand across =
    let each : AreRows 1 across (λ t. pos 0 ∷ []) = λ t lt. (All-from_recursion FitsLong (pos 0 ∷ []) (zero_long, tt), refl) in
    let size = list_length 1 (λ t. pos 0 ∷ []) across each in
    (list_longs 1 (λ t. pos 0 ∷ []) across each, omega (arith, size))

pub row_kind : (across : ℕ) → IsLineKind (IsFacesRow across) face_row (6 + 21 * across)
row_kind across = record {
  some = (zero_row across, zeros_stand across);
  inside = λ row a. faces_inside row a.0;
  short = inl (λ row a. let most = numbers_short row a.0 in let e = a.1 in omega (arith, most, e, length-append (codes "faces") (numbers_text row)));
}

-- ---- the lines before the grid

-- the parts, from the last
pub cost_from : IsPart IsWide (ended_line cost_line)
cost_from = line_part cost_kind

pub steep_part : IsPart (both IsSteepness IsWide) (in_turn (ended_line steep_line) (ended_line cost_line))
steep_part = turn_part (line_part steep_kind) cost_from

pub ramp_part : IsPart (both IsRamp (both IsSteepness IsWide)) (in_turn (ended_line ramp_line) (in_turn (ended_line steep_line) (ended_line cost_line)))
ramp_part = turn_part (line_part ramp_kind) steep_part

pub rule_part : IsPart (both IsAnyRule (both IsRamp (both IsSteepness IsWide))) (in_turn (ended_line rule_line) (in_turn (ended_line ramp_line) (in_turn (ended_line steep_line) (ended_line cost_line))))
rule_part = turn_part (line_part rule_kind) ramp_part

pub size_part : IsPart (both IsWholeSize (both IsAnyRule (both IsRamp (both IsSteepness IsWide)))) (in_turn (ended_line size_line) (in_turn (ended_line rule_line) (in_turn (ended_line ramp_line) (in_turn (ended_line steep_line) (ended_line cost_line)))))
size_part = turn_part (line_part whole_size_kind) rule_part

pub head_part : IsPart IsHead head_parts
head_part = turn_part (line_part first_kind) size_part

known_one : One IsAnyRule (known_line {A = Unit {0}} (codes "insar-whole 1"))
known_one a b p q e = refl

pub head_one : One IsHead head_parts
head_one =
    turn_one (line_part first_kind) size_part (line_one known_one)
    (turn_one (line_part whole_size_kind) rule_part (line_one whole_size_unique)
    (turn_one (line_part rule_kind) ramp_part (line_one (λ p q _ _. rule_unique p q))
    (turn_one (line_part ramp_kind) steep_part (line_one ramp_unique)
    (turn_one (line_part steep_kind) cost_from (line_one steep_unique) (line_one cost_unique)))))

-- ---- the faces

-- lines of rows are lines of faces
pub cells_same : (width height : ℕ) → SameForms (TextOf (AreRows (width - 1) (cell_rows width height)) (lines_of_rows (cell_rows width height))) (TextOf (AreCellFaces width height) (face_rows width height))
cells_same width height = record {
  to = λ t a. (list_of (cell_rows width height) a.0, (rows_make width height a.0 a.1.0, a.1.1 ∙ rows_told width height a.0 a.1.0));
  «from» = λ t b. (row_of (width - 1) b.0, (cells_stand width height b.0 b.1.0, b.1.1 ∙ faces_are width height b.0));
}

pub inside : (across rows : ℕ) (t : ℕ) → t < rows → (row : List ℤ) → IsFacesRow across row → InLine (face_row row)
inside across rows t lt row a = faces_inside row a.0

pub rows_part : (across rows : ℕ) → IsPart (AreRows across rows) (lines_of_rows rows)
rows_part across rows = let some = row_kind across in lines_part (IsFacesRow across) (λ y. face_row) rows (inside across rows) some.some.0 some.some.1

module _ (across rows k : ℕ) (here : k < rows) (f : ℕ → List ℤ) (a : AreRows across k f) where
  abbrev RowsLeft : Form
  RowsLeft t = TextOf (AreRows across rows) (lines_of_rows rows) (lines_of_rows k f ++ t)

  pub row_after : ComesAfter (lines_of_rows k f) RowsLeft (TextOf (AreRows across rows) (lines_of_rows rows))
  row_after = lines_after (IsFacesRow across) (λ y. face_row) rows (inside across rows) k here f a

  pub row_first : ComesFirst (TextOf (IsFacesRow across) (ended_line face_row)) RowsLeft
  row_first = line_first (IsFacesRow across) (λ y. face_row) rows (inside across rows) k here f a (IsFacesRow across) (λ r p. p) (λ r p. p) (line_part (row_kind across))

pub cells_part : (width height : ℕ) → IsPart (AreCellFaces width height) (face_rows width height)
cells_part width height =
    let rows = rows_part (width - 1) (cell_rows width height) in
    let some = rows.some in
    record { some = (list_of (cell_rows width height) some.0, rows_make width height some.0 some.1); code = same_code _ _ (cells_same width height) rows.code }

-- ---- what comes after the head

abbrev pub TailOf : Type 0
TailOf = Field ℤ × (List ℤ × Unit {0})

abbrev pub IsTail : ℕ → ℕ → TailOf → Type 0
IsTail width height = both (AreLong width height) (both (AreCellFaces width height) IsAnyRule)

abbrev pub tail_text : ℕ → ℕ → TailOf → List ℕ
tail_text width height = in_turn (grid_text width height) (in_turn (face_rows width height) (ended_line (known_line (codes "end"))))

pub end_part : (width height : ℕ) → IsPart (both (AreCellFaces width height) (IsAnyRule {A = Unit {0}})) (in_turn (face_rows width height) (ended_line (known_line (codes "end"))))
end_part width height = turn_part (cells_part width height) (line_part end_kind)

pub tail_part : (width height : ℕ) → IsTrue (is_raster_size width height) → IsPart (IsTail width height) (tail_text width height)
tail_part width height z = turn_part (values_part width height z) (end_part width height)

-- ---- the whole

abbrev pub head_of : WholeOf → HeadOf
head_of v = (tt, ((v.width, v.height), (v.rule, ((v.terms.ramp_x, v.terms.ramp_y), (v.terms.steep, v.cost)))))

abbrev pub tail_of : WholeOf → TailOf
tail_of v = (v.values, (v.faces, tt))

abbrev pub RestOf : HeadOf → Form
RestOf p = TextOf (IsTail p.1.0.0 p.1.0.1) (tail_text p.1.0.0 p.1.0.1)

pub whole_is : (v : WholeOf) → whole_text v ≡ head_parts (head_of v) ++ tail_text v.width v.height (tail_of v)
unfolding whole_text
whole_is v = refl

pub whole_same : SameForms (Then IsHead head_parts RestOf) IsWholeText
whole_same = record {
  to = λ t s.
      let p = s.0 in
      let h = s.1.0 in
      let r = s.1.1.1.0 in
      let terms : TermsOf = record { ramp_x = p.1.1.1.0.0; ramp_y = p.1.1.1.0.1; steep = p.1.1.1.1.0 } in
      let v : WholeOf = record { width = p.1.0.0; height = p.1.0.1; rule = p.1.1.0; terms = terms; cost = p.1.1.1.1.1; values = r.0.0; faces = r.0.1.0 } in
      (v, (record { sized = h.1.0; ramp = h.1.1.1.0; steepness = h.1.1.1.1.0; cost = h.1.1.1.1.1; values = r.1.0.0; faces = r.1.0.1.0 }, s.1.1.1.1 ∙ ap (λ (l : List ℕ). head_parts p ++ l) r.1.1 ∙ sym (whole_is v)));
  «from» = λ t a.
      let v = a.0 in
      let i = a.1.0 in
      (head_of v, ((tt, (i.sized, (tt, (i.ramp, (i.steepness, i.cost))))), (tail_text v.width v.height (tail_of v), ((tail_of v, ((i.values, (i.faces, tt)), refl)), a.1.1 ∙ whole_is v))));
}

pub whole_first : ComesFirst (TextOf IsHead head_parts) IsWholeText
whole_first = first_same _ _ _ whole_same (then_first head_part head_one RestOf (λ p h. let tail = tail_part p.1.0.0 p.1.0.1 h.1.0 in (tail_text p.1.0.0 p.1.0.1 tail.some.0, (tail.some.0, (tail.some.1, refl)))))

pub rest_after : (p : HeadOf) → IsHead p → ComesAfter (head_parts p) (RestOf p) IsWholeText
rest_after p h = after_same whole_same (then_after head_part head_one RestOf p h)

pub whole_code : IsCode IsWholeText
whole_code = same_code _ _ whole_same (then_code head_part head_one RestOf (λ p h. let tail = tail_part p.1.0.0 p.1.0.1 h.1.0 in tail.code))

-- ---- no two have one text

pub whole_apart : (v w : WholeOf) → IsWhole v → IsWhole w → whole_text v ≡ whole_text w → (head_of v ≡ head_of w) × (tail_text v.width v.height (tail_of v) ≡ tail_text w.width w.height (tail_of w))
whole_apart v w a b e = then_apart head_part head_one (head_of v) (head_of w) _ _ (tt, (a.sized, (tt, (a.ramp, (a.steepness, a.cost))))) (tt, (b.sized, (tt, (b.ramp, (b.steepness, b.cost))))) (sym (whole_is v) ∙ e ∙ whole_is w)
