-- Rows that were taken, and the row that comes next.
use Rattle.std.proofs.Common.{◌≡◌, ℕ, zero, suc, ◌+◌, ◌*◌, ◌<◌, List, [], ◌∷◌, ◌++◌, length, ℤ, pos, inl, inr, refl, sym, ap, subst, ◌∙◌, append_assoc, arith}
use Rattle.std.proofs.lemmas.Bool.{cases_lt}
use Rattle.std.proofs.lemmas.List.{append_cancel_right, get_or_past}
use Rattle.std.proofs.lemmas.List.Elements.{All-append}
use Rattle.raster_model.specs.Sums.{Field}
use Rattle.text_lines.specs.Forms.{AreWholeLines}
use Rattle.text_lines.specs.Numbers.{AreLongs, FitsLong, numbers_line}
use Rattle.text_lines.specs.Text.{texts_below}
use Rattle.text_lines.proofs.FormLemmas.{ComesFirst, whole_append, whole_line}
use Rattle.text_lines.proofs.NumberLemmas.{line_unique}
use Rattle.text_lines.proofs.NumberLines.{line_in_line, zero_long}
use Rattle.text_lines.proofs.SeqLemmas.{line_code}
use Rattle.text_lines.proofs.TextLemmas.{IsOneLine, texts_cancel, texts_more, texts_tail}
use Rattle.grid_writer.specs.Grid.{grid_row, grid_rows, values_below}
use Rattle.grid_writer.specs.Grids.{AreLong, value_at}
use Rattle.grid_writer.specs.GridParts.{IsRow, IsRowLine, IsRowsText}
use Rattle.grid_writer.proofs.HeadLemmas.{row_inside}
use Rattle.grid_writer.proofs.ValueLemmas.{length_values, rows_push, values_at, values_long}

row_one_line : (width : ℕ) (v : Field ℤ) (y : ℕ) → ((x : ℕ) → x < width → FitsLong (v x y)) → IsOneLine (grid_row v width y)
row_one_line width v y long = (numbers_line (values_below width (λ x. v x y)), (line_in_line (values_below width (λ x. v x y)) (values_long width (λ x. v x y) long), refl))

rows_whole_at : (n : ℕ) (width : ℕ) (values : Field ℤ) → AreWholeLines (texts_below n (grid_row values width))
unfolding texts_below
rows_whole_at zero width values = inl refl
rows_whole_at (suc n) width values = whole_append (texts_below n (grid_row values width)) (grid_row values width n) (rows_whole_at n width values) (whole_line (numbers_line (values_below width (λ x. values x n))))

pub rows_whole : (width h : ℕ) (values : Field ℤ) → AreWholeLines (grid_rows width h values)
unfolding grid_rows
rows_whole width h values = rows_whole_at h width values

pub value_long : (width : ℕ) (items : List ℤ) → AreLongs items → (x y : ℕ) → FitsLong (value_at width items x y)
value_long width items longs x y = elim (cases_lt (y * width + x) (length items)) [
  | inl below ↦ longs (y * width + x) (pos 0) below
  | inr above ↦ subst FitsLong (sym (get_or_past items (y * width + x) (pos 0) above)) zero_long
]

next_row : (width h : ℕ) (values : Field ℤ) → ((x : ℕ) → x < width → FitsLong (values x h)) → IsRowLine width (grid_row values width h)
next_row width h values long = (numbers_line (values_below width (λ x. values x h)), ((values_below width (λ x. values x h), (values_long width (λ x. values x h) long, (length_values width (λ x. values x h), refl))), refl))

-- after h rows comes a row
module _ (width height h : ℕ) (items : List ℤ) (n : length items ≡ h * width) (longs : AreLongs items) (lt : h < height) where
  row_splits : (t : List ℕ) → IsRowsText width height (grid_rows width h (value_at width items) ++ t) → (p : List ℕ) × (r : List ℕ) × (IsRowLine width p × (t ≡ p ++ r))
  unfolding grid_rows
  row_splits t s =
      let v = s.0 in
      let long = s.1.0 in
      let f : ℕ → List ℕ = grid_row v width in
      let tail = texts_tail height h f lt in
      let whole : texts_below h (grid_row (value_at width items) width) ++ t ≡ texts_below h f ++ (f h ++ tail.0) = s.1.1 ∙ tail.1 ∙ append_assoc (texts_below h f) (f h) tail.0 in
      let cut = texts_cancel h (grid_row (value_at width items) width) f t (f h ++ tail.0)
      (λ k lk. row_one_line width (value_at width items) k (λ x lx. value_long width items longs x k))
      (λ k lk. row_one_line width v k (λ x lx. long x k lx (omega arith))) whole in
      (f h, tail.0, (next_row width h v (λ x lx. long x h lx lt), cut.1))

  row_extends : (line : List ℕ) (row : List ℤ) → AreLongs row → length row ≡ width → line ≡ numbers_line row → (more : List ℕ) × IsRowsText width height (grid_rows width h (value_at width items) ++ ((line ++ 10 ∷ []) ++ more))
  unfolding grid_rows
  row_extends line row all m e =
      let old = grid_rows width h (value_at width items) in
      let v = value_at width (items ++ row) in
      let f : ℕ → List ℕ = grid_row v width in
      let tail = texts_tail height h f lt in
      let here : old ++ (line ++ 10 ∷ []) ≡ texts_below h f ++ f h = ap (λ (l : List ℕ). old ++ (l ++ 10 ∷ [])) e ∙ sym (rows_push width h items row n m) ∙ texts_more h f in
      let whole : old ++ ((line ++ 10 ∷ []) ++ tail.0) ≡ grid_rows width height v = sym (append_assoc old (line ++ 10 ∷ []) tail.0) ∙ ap (λ (l : List ℕ). l ++ tail.0) here ∙ sym tail.1 in
      (tail.0, (v, (λ x y lx ly. value_long width (items ++ row) (All-append FitsLong items row longs all) x y, whole)))

  pub row_first : ComesFirst (IsRowLine width) (λ (t : List ℕ). IsRowsText width height (grid_rows width h (value_at width items) ++ t))
  row_first = record {
    splits = row_splits;
    extends = λ p d.
        let e = row_extends d.0 d.1.0.0 d.1.0.1.0 d.1.0.1.1.0 d.1.0.1.1.1 in
        (e.0, subst (λ (l : List ℕ). IsRowsText width height (grid_rows width h (value_at width items) ++ (l ++ e.0))) (sym d.1.1) e.1);
    whole = (line_code (IsRow width) (row_inside width)).whole;
    free = (line_code (IsRow width) (row_inside width)).free;
  }

-- ---- rows by their texts

row_values : (w : ℕ) (v v' : Field ℤ) (y : ℕ) → ((x : ℕ) → x < w → FitsLong (v x y)) → ((x : ℕ) → x < w → FitsLong (v' x y)) → grid_row v w y ≡ grid_row v' w y → (x : ℕ) → x < w → v x y ≡ v' x y
row_values w v v' y long long' e =
    let lines = append_cancel_right (numbers_line (values_below w (λ x. v x y))) (numbers_line (values_below w (λ x. v' x y))) (10 ∷ []) e in
    let lists = line_unique (values_below w (λ x. v x y)) (values_below w (λ x. v' x y)) (values_long w (λ x. v x y) long) (values_long w (λ x. v' x y) long')
    (length_values w (λ x. v x y) ∙ sym (length_values w (λ x. v' x y))) lines in
    values_at w (λ x. v x y) (λ x. v' x y) lists

pub rows_cancel : (w h : ℕ) (v v' : Field ℤ) (r s : List ℕ) → AreLong w h v → AreLong w h v' → grid_rows w h v ++ r ≡ grid_rows w h v' ++ s → ((x y : ℕ) → x < w → y < h → v x y ≡ v' x y) × (r ≡ s)
unfolding grid_rows
rows_cancel w h v v' r s long long' e =
    let t = texts_cancel h (grid_row v w) (grid_row v' w) r s (λ y ly. row_one_line w v y (λ x lx. long x y lx ly)) (λ y ly. row_one_line w v' y (λ x lx. long' x y lx ly)) e in
    (λ x y lx ly. row_values w v v' y (λ k lk. long k y lk ly) (λ k lk. long' k y lk ly) (t.0 y ly) x lx, t.1)
