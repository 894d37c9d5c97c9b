-- Bytes in front of which no grid stands have a first broken line: each line of a grid can be told.
use Rattle.std.proofs.Common.{◌≡◌, ℕ, zero, suc, ◌+◌, ◌*◌, ◌<◌, ◌≤◌, List, [], ◌∷◌, ◌++◌, length, ℤ, inl, inr, ◌⊎◌, refl, sym, ap, subst, ◌∙◌, append_assoc, arith}
use Rattle.std.specs.Prelude.{IsTrue, codes}
use Rattle.std.specs.Fmt.{decimal}
use Rattle.std.proofs.lemmas.Bool.{cases_eq, cases_lt}
use Rattle.std.proofs.lemmas.List.{append-nil, length-append}
use Rattle.std.proofs.lemmas.List.Elements.{All-append, All-nil}
use Rattle.raster_model.specs.Limits.{is_raster_size, is_tiled_size}
use Rattle.raster_model.specs.Sums.{Field}
use Rattle.text_lines.specs.Forms.{Begins, IsText, NeedsMore}
use Rattle.text_lines.specs.Numbers.{AreLongs, FitsLong, numbers_line, numbers_text}
use Rattle.text_lines.specs.Reading.{TextOrBreak}
use Rattle.text_lines.proofs.BreakLemmas.{IsDecided, after_line_decided, decided_after, decided_at, decided_same, needs_line, parts_decided, text_decided, text_or_break}
use Rattle.text_lines.proofs.FormLemmas.{InLine, cons_tail, goes_on_first, not_nil}
use Rattle.text_lines.proofs.NumberLemmas.{numbers_unique, row_numbers}
use Rattle.text_lines.proofs.TellLemmas.{AreNumbersText, Told, bytes_told, numbers_told, told_below}
use Rattle.grid_writer.specs.declared.read.Sizes.{Sizes}
use Rattle.grid_writer.specs.Grid.{columns_line, frame_lines, grid_rows, rows_line}
use Rattle.grid_writer.specs.Grids.{AreLong, IsGridText, IsGridTextOf, value_at}
use Rattle.grid_writer.specs.GridParts.{AreSizes, IsBodyText, IsCount, IsCountLine, IsGridTextIn, IsRow, IsRowsText}
use Rattle.grid_writer.proofs.HeadLemmas.{IsAnySize, any_size, body_after, body_first, columns_inside, count_inside, grid_after, grid_first, grid_second, known_size, known_sizes, one_size, row_inside, rows_inside, some_row, zeros}
use Rattle.grid_writer.proofs.RowsLemmas.{row_first, rows_cancel, value_long}
use Rattle.grid_writer.proofs.SizeLemmas.{most_rows, some_rows, tiled_is_raster}
use Rattle.grid_writer.proofs.ValueLemmas.{rows_none, rows_push}

-- ---- lines

count_told : (label : List ℕ) (least most : ℕ) (line : List ℕ) → Told (IsCount label least most line)
count_told label least most line = from_below (told_below (λ n. (least ≤ n) × (line ≡ label ++ decimal n)) (λ n. both n (cases_lt n least) (bytes_told line (label ++ decimal n))) (suc most))
  where
    both : (n : ℕ) → (n < least) ⊎ (least ≤ n) → Told (line ≡ label ++ decimal n) → Told ((least ≤ n) × (line ≡ label ++ decimal n))
    both n (inl lt) t = inr (λ p. let le = p.0 in omega (arith, lt, le))
    both n (inr le) (inl e) = inl (le, e)
    both n (inr le) (inr bad) = inr (λ p. bad p.1)

    from_below : Told ((n : ℕ) × ((n < suc most) × ((least ≤ n) × (line ≡ label ++ decimal n)))) → Told (IsCount label least most line)
    from_below (inl f) = inl (f.0, (f.1.1.0, (let lt = f.1.0 in omega (arith, lt), f.1.1.1)))
    from_below (inr none) = inr (λ f. none (f.0, (let le = f.1.1.0 in omega (arith, le), (f.1.0, f.1.1.1))))

row_told : (width : ℕ) → 0 < width → (line : List ℕ) → Told (IsRow width line)
row_told width some line = by_numbers (numbers_told (32 ∷ line))
  where
    spelled : (row : List ℤ) → length row ≡ width → line ≡ numbers_line row → 32 ∷ line ≡ numbers_text row
    spelled row l e = ap (λ (t : List ℕ). 32 ∷ t) e ∙ sym (row_numbers row (omega (arith, l, some)))

    by_numbers : Told (AreNumbersText (32 ∷ line)) → Told (IsRow width line)
    by_numbers (inr bad) = inr (λ a. bad (a.0, (a.1.0, spelled a.0 a.1.1.0 a.1.1.1)))
    by_numbers (inl r) = elim (cases_eq (length r.0) width) [
      | inl l ↦ inl (r.0, (r.1.0, (l, cons_tail 32 32 line (numbers_line r.0) (r.1.1 ∙ row_numbers r.0 (omega (arith, l, some))))))
      | inr bad ↦ inr (λ a. bad (ap length (numbers_unique r.0 a.0 r.1.0 a.1.0 (sym r.1.1 ∙ spelled a.0 a.1.1.0 a.1.1.1)) ∙ a.1.1.0))
    ]

-- ---- rows

-- so many rows more, after the values of h rows
rows_decided : (width height h m : ℕ) (items : List ℤ) → 0 < width → length items ≡ h * width → AreLongs items → h + m ≡ height → IsDecided (λ (t : List ℕ). IsRowsText width height (grid_rows width h (value_at width items) ++ t))
rows_decided width height h zero items some n longs e [] w = inl (value_at width items, (λ x y lx ly. value_long width items longs x y, append-nil _ ∙ ap (λ (k : ℕ). grid_rows width k (value_at width items)) (omega (arith, e))))
rows_decided width height h zero items some n longs e (b ∷ t) w = inr (inr (λ g. full g.0 g.1.0 g.1.1.0 g.1.1.1))
  where
    full : (more : List ℕ) (v : Field ℤ) → AreLong width height v → grid_rows width h (value_at width items) ++ ((b ∷ t) ++ more) ≡ grid_rows width height v → ⊥
    full more v long f = not_nil b (t ++ more) (sym (rows_cancel width h (value_at width items) v ((b ∷ t) ++ more) [] (λ x y lx ly. value_long width items longs x y) (λ x y lx ly. long x y lx (omega (arith, ly, e))) (f ∙ ap (λ (k : ℕ). grid_rows width k v) (omega (arith, e)) ∙ sym (append-nil _))).1)
rows_decided width height h (suc m) items some n longs e tail whole =
    after_line_decided (IsRow width) (row_inside width) (row_told width some) (numbers_line (zeros width), some_row width) (λ (t : List ℕ). IsRowsText width height (grid_rows width h (value_at width items) ++ t)) (row_first width height h items n longs (omega (arith, e)))
    (λ line (row, (all, (l, s))).
    let old = grid_rows width h (value_at width items) in
    let new = grid_rows width (h + 1) (value_at width (items ++ row)) in
    decided_at (IsRowsText width height) (λ t. new ++ t) (λ t. old ++ ((line ++ 10 ∷ []) ++ t))
    (λ t. ap (λ (x : List ℕ). x ++ t) (rows_push width h items row n l ∙ ap (λ (x : List ℕ). old ++ (x ++ 10 ∷ [])) (sym s)) ∙ append_assoc old (line ++ 10 ∷ []) t)
    (rows_decided width height (h + 1) m (items ++ row) some (omega (arith, n, l, length-append items row)) (All-append FitsLong items row longs all) (omega (arith, e)))) tail whole

-- ---- what comes after the size

begins_frame : Begins (IsText frame_lines) []
begins_frame = (frame_lines, refl)

body_decided : (w h : ℕ) → 0 < w → IsDecided (IsBodyText w h)
body_decided w h some = parts_decided (IsText frame_lines) (IsBodyText w h) (body_first w h)
    (λ p e. decided_after p (IsRowsText w h) (IsBodyText w h) (body_after w h p e) (decided_at (IsRowsText w h) (λ t. grid_rows w 0 (value_at w []) ++ t) (λ t. t) (λ t. ap (λ (x : List ℕ). x ++ t) (rows_none w (value_at w [])))
    (rows_decided w h 0 h [] some (omega arith) (All-nil FitsLong) (omega arith)))) (λ t _. text_decided frame_lines t) begins_frame

-- ---- the size

module _ (s : Sizes) (ok : AreSizes s) where
  abbrev WithColumns : ℕ → List ℕ → Type 0
  WithColumns w t = IsGridTextIn s (columns_line w ++ t)

  rows_then : (w : ℕ) → s.least_width ≤ w → w ≤ s.most_width → (line : List ℕ) → IsCount (codes "nrows ") s.least_height (most_rows s w) line → IsDecided (λ (t : List ℕ). WithColumns w ((line ++ 10 ∷ []) ++ t))
  unfolding rows_line
  rows_then w lo hi line (h, (low, (high, e))) =
      let rows = columns_line w ++ rows_line h in
      decided_at (IsGridTextIn s) (λ t. rows ++ t) (λ t. columns_line w ++ ((line ++ 10 ∷ []) ++ t)) (λ t. append_assoc (columns_line w) (rows_line h) t ∙ ap (λ (x : List ℕ). columns_line w ++ ((x ++ 10 ∷ []) ++ t)) (sym e))
      (decided_after rows (IsBodyText w h) (IsGridTextIn s) (grid_after s ok w lo hi h low high) (body_decided w h (omega (arith, lo, ok.wide))))

  width_then : (line : List ℕ) → IsCount (codes "ncols ") s.least_width s.most_width line → IsDecided (λ (t : List ℕ). IsGridTextIn s ((line ++ 10 ∷ []) ++ t))
  unfolding columns_line
  width_then line (w, (lo, (hi, e))) =
      let least = s.least_height in
      let most = most_rows s w in
      subst (λ (x : List ℕ). IsDecided (λ (t : List ℕ). IsGridTextIn s ((x ++ 10 ∷ []) ++ t))) (sym e)
      (after_line_decided (IsCount (codes "nrows ") least most) (count_inside (codes "nrows ") least most rows_inside (omega (arith, ok.low))) (count_told (codes "nrows ") least most) (codes "nrows " ++ decimal least, (least, (omega arith, (some_rows s ok w lo hi, refl))))
      (WithColumns w) (grid_second s ok w lo hi) (rows_then w lo hi))

  inside : (line : List ℕ) → IsCount (codes "ncols ") s.least_width s.most_width line → InLine line
  inside = count_inside (codes "ncols ") s.least_width s.most_width columns_inside (omega (arith, ok.narrow))

  some_line : (line : List ℕ) × IsCount (codes "ncols ") s.least_width s.most_width line
  some_line = (codes "ncols " ++ decimal s.least_width, (s.least_width, (omega arith, (ok.widths, refl))))

  columns_needed : NeedsMore (IsCountLine (codes "ncols ") s.least_width s.most_width) []
  columns_needed = needs_line (IsCount (codes "ncols ") s.least_width s.most_width) inside (count_told (codes "ncols ") s.least_width s.most_width) some_line

  sizes_decided : IsDecided (IsGridTextIn s)
  sizes_decided = after_line_decided (IsCount (codes "ncols ") s.least_width s.most_width) inside (count_told (codes "ncols ") s.least_width s.most_width) some_line (IsGridTextIn s) (grid_first s ok) width_then

-- a grid of a size that is known
pub wide_decided : (w h : ℕ) → IsTrue (is_raster_size w h) → IsDecided (IsGridTextOf w h)
wide_decided w h z t whole = decided_same (IsGridTextIn (known_size w h)) (IsGridTextOf w h) (one_size w h z) t (sizes_decided (known_size w h) (known_sizes w h z) t whole)

pub sized_decided : (w h : ℕ) → IsTrue (is_tiled_size w h) → IsDecided (IsGridTextOf w h)
sized_decided w h z = wide_decided w h (tiled_is_raster w h z)

-- one of any size that has tiles
any : Sizes
any = record { least_width = 1; most_width = 4096; least_height = 1; most_height = 4096; most_pixels = 4194304 }

any_ok : AreSizes any
unfolding any
any_ok = record { wide = omega arith; widths = omega arith; narrow = omega arith; high = omega arith; heights = omega arith; low = omega arith; few = omega arith; pixels = omega arith }

any_is : IsAnySize any
unfolding any
any_is = record { least_width = refl; most_width = refl; least_height = refl; most_height = refl; most_pixels = refl }

pub grid_or_break : TextOrBreak IsGridText
unfolding any
grid_or_break =
    let same = any_size any any_is in
    text_or_break IsGridText (λ t w. decided_same (IsGridTextIn any) IsGridText same t (sizes_decided any any_ok t w))
    (let g = goes_on_first (IsCountLine (codes "ncols ") 1 4096) (IsGridTextIn any) (grid_first any any_ok) [] (columns_needed any any_ok) in (g.0, (g.1.0, same.to g.0 g.1.1)))
