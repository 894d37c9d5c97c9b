-- How long the parts of a text can be.
use Rattle.std.proofs.Common.{ℕ, ◌+◌, ◌-◌, ◌*◌, ◌≤◌, ◌<◌, ℤ, List, ◌++◌, length, inl, inr, arith, mul-le-mul}
use Rattle.std.specs.Prelude.{◌==◌, codes}
use Rattle.std.proofs.lemmas.Bool.{cases_Bool}
use Rattle.std.proofs.lemmas.List.{length-append}
use Rattle.text_lines.specs.Numbers.{numbers_text}
use Rattle.text_lines.specs.Text.{field_text}
use Rattle.text_parts.specs.Text.{ended_line, line_end, ramp_line, rule_line, size_line, steep_line}
use Rattle.text_parts.proofs.LengthLemmas.{ended_short, numbers_short, texts_short, whole_grid_short, whole_pixels}
use Rattle.text_parts.proofs.LineLemmas.{ramp_fits, rule_fits, steep_fits, whole_parts, whole_size_fits, wide_fits}
use Rattle.grid_writer.specs.Grid.{grid_text}
use Rattle.whole_text.specs.Parts.{AreRows}
use Rattle.whole_text.specs.Text.{AreCellFaces, IsWhole, WholeOf, cell_rows, cost_line, face_row, face_rows, row_of, whole_head, whole_text}
use Rattle.whole_text.specs.Length.{WholeTextsAreShort}
use Rattle.whole_text.proofs.RowLemmas.{cells_stand}

-- the rows of faces
face_row_short : (across rows : ℕ) (f : ℕ → List ℤ) (y : ℕ) → AreRows across rows f → y < rows → length (ended_line face_row (f y)) ≤ 21 * across + 6
face_row_short across rows f y stand lt =
    let row = stand y lt in
    omega (arith, length-append (face_row (f y)) line_end, length-append (codes "faces") (numbers_text (f y)), numbers_short (f y) row.0, row.1)

few_rows : (width height : ℕ) → cell_rows width height ≤ height - 1
few_rows width height = elim (cases_Bool (width == 1)) [
  | inl one ↦ rw one (omega arith)
  | inr more ↦ rw more (omega arith)
]

faces_short : (width height : ℕ) (faces : List ℤ) → AreCellFaces width height faces → length (face_rows width height faces) ≤ (height - 1) * (21 * (width - 1) + 6)
unfolding face_rows
faces_short width height faces are =
    let rows = cell_rows width height in
    let most = 21 * (width - 1) + 6 in
    let f : ℕ → List ℤ = row_of (width - 1) faces in
    let all = texts_short rows most (λ y. ended_line face_row (f y)) (λ y lt. face_row_short (width - 1) rows f y (cells_stand width height faces are) lt) in
    omega (arith, all, mul-le-mul (few_rows width height) (let same : most ≤ most = omega arith in same))

-- the lines before the grid
head_short : (w : WholeOf) → IsWhole w → length (whole_head w.width w.height w.rule w.terms w.cost) ≤ 700
head_short w is =
    let size = ended_line size_line (w.width, w.height) in
    let rule = ended_line rule_line w.rule in
    let ramp = ended_line ramp_line (w.terms.ramp_x, w.terms.ramp_y) in
    let steep = ended_line steep_line w.terms.steep in
    let cost = ended_line cost_line w.cost in
    omega (
      arith,
      length-append (codes "insar-whole 1\n") (size ++ (rule ++ (ramp ++ (steep ++ cost)))),
      length-append size (rule ++ (ramp ++ (steep ++ cost))),
      length-append rule (ramp ++ (steep ++ cost)),
      length-append ramp (steep ++ cost),
      length-append steep cost,
      ended_short size_line (w.width, w.height) 128 (whole_size_fits (w.width, w.height) is.sized).short,
      ended_short rule_line w.rule 128 (rule_fits w.rule).short,
      ended_short ramp_line (w.terms.ramp_x, w.terms.ramp_y) 128 (ramp_fits (w.terms.ramp_x, w.terms.ramp_y) is.ramp).short,
      ended_short steep_line w.terms.steep 128 (steep_fits w.terms.steep is.steepness).short,
      ended_short cost_line w.cost 44 (omega (arith, length-append (codes "cost") (field_text w.cost), (wide_fits w.cost is.cost).short)),
    )

-- 22 bytes for each value, and 21 for each face with the word before its row
counted : (width height : ℕ) → 1 ≤ width → 1 ≤ height → height * (21 * width + 1) + (height - 1) * (21 * (width - 1) + 6) ≤ 43 * (width * height)
counted width height wide high =
    let values : height * (21 * width + 1) ≤ height * (22 * width) = mul-le-mul (let same : height ≤ height = omega arith in same) (omega (arith, wide)) in
    let faces : (height - 1) * (21 * (width - 1) + 6) ≤ height * (21 * width) = mul-le-mul (omega arith) (omega (arith, wide)) in
    omega (arith, values, faces)

pub whole_texts_are_short : WholeTextsAreShort
unfolding whole_text
whole_texts_are_short w is =
    let head = whole_head w.width w.height w.rule w.terms w.cost in
    let grid = grid_text w.width w.height w.values in
    let faces = face_rows w.width w.height w.faces in
    let size = whole_parts w.width w.height is.sized in
    let some = whole_pixels w.width w.height is.sized in
    omega (
      arith,
      length-append head (grid ++ (faces ++ codes "end\n")),
      length-append grid (faces ++ codes "end\n"),
      length-append faces (codes "end\n"),
      head_short w is,
      whole_grid_short w.width w.height w.values is.values size.0 size.1,
      faces_short w.width w.height w.faces is.faces,
      counted w.width w.height some.0 some.1,
    )
