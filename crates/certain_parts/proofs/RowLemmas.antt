-- Rows that are written value by value.
use Rattle.std.proofs.Common.{◌≡◌, ℕ, suc, ◌+◌, ◌<◌, ℤ, List, [], ◌∷◌, ◌++◌, length, Bool, codes, sym, arith}
use Rattle.std.proofs.lemmas.List.{append-nil, flat_map_more}
use Rattle.std.specs.Fmt.{signed_decimal}
use Rattle.text_lines.specs.Adding.{Adds, View}
use Rattle.text_lines.specs.Numbers.{number_text, numbers_line}
use Rattle.text_lines.proofs.AddLemmas.{adds_then}
use Rattle.raster_model.specs.Sums.{Field}
use Rattle.grid_writer.specs.Grid.{grid_row, values_below}
use Rattle.grid_writer.proofs.ValueLemmas.{length_values}
use Rattle.certain_parts.specs.PartsText.{labels_grid, labels_line}
use Rattle.certain_parts.specs.PartsView.{PartsView}

line_more : (row : List ℤ) (n : ℤ) → 0 < length row → numbers_line (row ++ n ∷ []) ≡ numbers_line row ++ number_text n
line_more [] n some = absurd (omega (arith, some))
line_more (first ∷ row) n some = sym (flat_map_more number_text (signed_decimal first) row n)

module _ (parts : PartsView) (mask : Field Bool) (y : ℕ) where
  -- the first value alone
  pub line_first : labels_line parts mask y 1 ≡ signed_decimal ((labels_grid parts mask).values 0 y)
  unfolding labels_line values_below
  line_first = append-nil (signed_decimal ((labels_grid parts mask).values 0 y))

  -- one value more behind those that are there
  pub line_longer : (x : ℕ) → 0 < x → labels_line parts mask y (x + 1) ≡ labels_line parts mask y x ++ number_text ((labels_grid parts mask).values x y)
  unfolding labels_line values_below
  line_longer x some =
      let f : ℕ → ℤ = λ k. (labels_grid parts mask).values k y in
      let next : x + 1 ≡ suc x = omega arith in
      rw next (line_more (values_below x f) (f x) (let e = length_values x f in omega (arith, e, some)))

  -- a whole row with its LF
  pub row_of_line : {v m w : View} → Adds v m (labels_line parts mask y parts.width) → Adds m w (codes "\n") → Adds v w (grid_row (labels_grid parts mask).values parts.width y)
  unfolding labels_line
  row_of_line p q = adds_then p q
