-- The lines of a grid: which they may be, and which comes after which.
use Rattle.std.proofs.Common.{◌≡◌, ℕ, ◌+◌, ◌*◌, ◌^◌, ◌<◌, ◌≤◌, List, [], ◌∷◌, ◌++◌, length, ℤ, pos, refl, sym, ap, subst, ◌∙◌, append_assoc, arith, lit<}
use Rattle.std.specs.Prelude.{IsTrue, codes, replicate}
use Rattle.std.specs.Fmt.{decimal}
use Rattle.std.proofs.lemmas.Fmt.{decimal_injective, length-decimal-le}
use Rattle.std.proofs.lemmas.List.{append_cancel_left, append_cancel_right, append-nil, length-append, length-replicate}
use Rattle.std.proofs.lemmas.List.Elements.{All-replicate}
use Rattle.raster_model.specs.Limits.{is_raster_size, is_tiled_size}
use Rattle.raster_model.specs.Sums.{Field}
use Rattle.text_lines.specs.Forms.{AreWholeLines, IsText}
use Rattle.text_lines.specs.Numbers.{FitsLong, numbers_line}
use Rattle.text_lines.proofs.FormLemmas.{BeginsWithLine, ComesAfter, ComesFirst, InLine, whole_append, whole_line}
use Rattle.text_lines.proofs.NumberLemmas.{decimal_without}
use Rattle.text_lines.proofs.NumberLines.{line_in_line, line_short, zero_long}
use Rattle.text_lines.proofs.SeqLemmas.{IsCode, SameForms, line_begins, line_code}
use Rattle.text_lines.proofs.TextLemmas.{IsOneLine, in_append, is_line, line_by, line_cancel}
use Rattle.grid_writer.specs.declared.read.Sizes.{Sizes}
use Rattle.grid_writer.specs.Grid.{columns_line, frame_lines, grid_rows, grid_text, rows_line}
use Rattle.grid_writer.specs.Grids.{AreLong, IsGridText, IsGridTextOf}
use Rattle.grid_writer.specs.GridParts.{AreSizes, HasSizeWithin, IsBodyText, IsCount, IsCountLine, IsGridTextIn, IsRow, IsRowLine, IsRowsText}
use Rattle.grid_writer.proofs.SizeLemmas.{WideSized, most_rows, rows_below, size_within, sized_by, sized_parts, sized_within, some_rows, small_height, small_width, wide_parts, within_at}

-- ---- a line that tells a count

module _ (label : List ℕ) (least most : ℕ) (inside : InLine label) (small : most < 2 ^ 64) where
  pub count_inside : (line : List ℕ) → IsCount label least most line → InLine line
  count_inside line d =
      let le = d.1.1.0 in
      subst InLine (sym d.1.1.1) (in_append label (decimal d.0) inside (decimal_without 10 (lit< tt) d.0 (omega (arith, le, small))))

  pub begins_count : least ≤ most → BeginsWithLine (IsCount label least most) (IsCountLine label least most)
  begins_count some = line_begins (IsCount label least most) count_inside (label ++ decimal least) (least, (omega arith, (some, refl)))

pub count_short : (label : List ℕ) (least most : ℕ) → most < 2 ^ 32 → (line : List ℕ) → IsCount label least most line → length line ≤ length label + 10
count_short label least most small line d =
    let le = d.1.1.0 in
    let e = ap length d.1.1.1 in
    let n = length-decimal-le 10 d.0 (lit< tt) (omega (arith, le, small)) (omega (arith, le, small)) in
    omega (arith, e, n, length-append label (decimal d.0))

-- ---- a row

pub row_inside : (width : ℕ) (line : List ℕ) → IsRow width line → InLine line
row_inside width line d = subst InLine (sym d.1.1.1) (line_in_line d.0 d.1.0)

pub zeros : ℕ → List ℤ
zeros width = replicate width (pos 0)

pub some_row : (width : ℕ) → IsRow width (numbers_line (zeros width))
unfolding zeros
some_row width = (zeros width, (All-replicate FitsLong width (pos 0) zero_long, (length-replicate width (pos 0), refl)))

pub begins_row : (width : ℕ) → BeginsWithLine (IsRow width) (IsRowLine width)
begins_row width = line_begins (IsRow width) (row_inside width) (numbers_line (zeros width)) (some_row width)

pub row_short : (width : ℕ) (line : List ℕ) → IsRow width line → length line ≤ 21 * width
row_short width line d =
    let e = ap length d.1.1.1 in
    let s = line_short d.0 d.1.0 in
    let n = d.1.1.0 in
    omega (arith, e, s, n)

-- ---- the two lines of the size

pub columns_inside : InLine (codes "ncols ")
unfolding is_line
columns_inside = line_by (codes "ncols ") refl

pub rows_inside : InLine (codes "nrows ")
unfolding is_line
rows_inside = line_by (codes "nrows ") refl

-- a line that tells a count is known by the text, and so is what follows it
labelled_same : (label : List ℕ) → InLine label → (m n : ℕ) (r s : List ℕ) → m < 2 ^ 64 → n < 2 ^ 64 → ((label ++ decimal m) ++ 10 ∷ []) ++ r ≡ ((label ++ decimal n) ++ 10 ∷ []) ++ s → (m ≡ n) × (r ≡ s)
labelled_same label inside m n r s p q e =
    let one : (k : ℕ) → k < 2 ^ 64 → IsOneLine ((label ++ decimal k) ++ 10 ∷ []) = λ k small. (label ++ decimal k, (in_append label (decimal k) inside (decimal_without 10 (lit< tt) k small), refl)) in
    let t = line_cancel ((label ++ decimal m) ++ 10 ∷ []) ((label ++ decimal n) ++ 10 ∷ []) r s (one m p) (one n q) e in
    (decimal_injective m n p q (append_cancel_left label (decimal m) (decimal n) (append_cancel_right (label ++ decimal m) (label ++ decimal n) (10 ∷ []) t.0)), t.1)

columns_same : (m n : ℕ) (r s : List ℕ) → m < 2 ^ 64 → n < 2 ^ 64 → columns_line m ++ r ≡ columns_line n ++ s → (m ≡ n) × (r ≡ s)
unfolding columns_line
columns_same = labelled_same (codes "ncols ") columns_inside

rows_same : (m n : ℕ) (r s : List ℕ) → m < 2 ^ 64 → n < 2 ^ 64 → rows_line m ++ r ≡ rows_line n ++ s → (m ≡ n) × (r ≡ s)
unfolding rows_line
rows_same = labelled_same (codes "nrows ") rows_inside

-- the same size is told by the same lines, and then comes the same
pub record SameSize (w h w' h' : ℕ) (x x' : List ℕ) : Type 0 where
  pub width : w ≡ w'
  pub height : h ≡ h'
  pub rest : x ≡ x'

pub sizes_cancel : (w h w' h' : ℕ) (x x' : List ℕ) → WideSized w h → WideSized w' h' → columns_line w ++ (rows_line h ++ x) ≡ columns_line w' ++ (rows_line h' ++ x') → SameSize w h w' h' x x'
sizes_cancel w h w' h' x x' s s' e =
    let p = columns_same w w' (rows_line h ++ x) (rows_line h' ++ x') (small_width w h s) (small_width w' h' s') e in
    let q = rows_same h h' x x' (small_height w h s) (small_height w' h' s') p.1 in
    record { width = p.0; height = q.0; rest = q.1 }

pub columns_whole : (w : ℕ) → AreWholeLines (columns_line w)
unfolding columns_line
columns_whole w = whole_line (codes "ncols " ++ decimal w)

pub size_whole : (w h : ℕ) → AreWholeLines (columns_line w ++ rows_line h)
unfolding rows_line
size_whole w h = whole_append (columns_line w) (rows_line h) (columns_whole w) (whole_line (codes "nrows " ++ decimal h))

-- ---- some values

zero_field : Field ℤ
zero_field = λ x y. pos 0

zero_fits : (w h : ℕ) → AreLong w h zero_field
unfolding zero_field
zero_fits w h x y lx ly = zero_long

count_code : (label : List ℕ) (least most : ℕ) → InLine label → most ≤ 65535 → IsCode (IsCountLine label least most)
count_code label least most inside le = line_code (IsCount label least most) (count_inside label least most inside (omega (arith, le)))

body_of : (w h w' h' : ℕ) (v : Field ℤ) (t : List ℕ) → w ≡ w' → h ≡ h' → AreLong w' h' v → t ≡ frame_lines ++ grid_rows w' h' v → IsBodyText w h t
body_of w h w' h' v t e f long g = rw (e, f) (v, (long, g))

-- ---- a grid's lines in their order

module _ (s : Sizes) (ok : AreSizes s) where
  some_grid : (w h : ℕ) → HasSizeWithin s w h → IsGridTextIn s (grid_text w h zero_field)
  some_grid w h i = (record { width = w; height = h; values = zero_field }, (zero_fits w h, (i, refl)))

  pub grid_first : ComesFirst (IsCountLine (codes "ncols ") s.least_width s.most_width) (IsGridTextIn s)
  unfolding columns_line
  grid_first = record {
    splits = λ t (g, (a, (i, e))). (columns_line g.width, rows_line g.height ++ (frame_lines ++ grid_rows g.width g.height g.values), ((codes "ncols " ++ decimal g.width, ((g.width, (i.wide, (i.narrow, refl))), refl)), e));
    extends = λ p (line, ((n, (low, (high, e))), f)).
        let least = some_rows s ok n low high in
        let more = rows_line s.least_height ++ (frame_lines ++ grid_rows n s.least_height zero_field) in
        (more, subst (λ (l : List ℕ). IsGridTextIn s (l ++ more)) (sym (f ∙ ap (λ (l : List ℕ). l ++ 10 ∷ []) e)) (some_grid n s.least_height (within_at s ok n low high s.least_height (omega arith) least)));
    whole = (count_code (codes "ncols ") s.least_width s.most_width columns_inside ok.narrow).whole;
    free = (count_code (codes "ncols ") s.least_width s.most_width columns_inside ok.narrow).free;
  }

  module _ (w : ℕ) (wide : s.least_width ≤ w) (narrow : w ≤ s.most_width) where
    pub grid_second : ComesFirst (IsCountLine (codes "nrows ") s.least_height (most_rows s w)) (λ (t : List ℕ). IsGridTextIn s (columns_line w ++ t))
    unfolding rows_line
    grid_second = record {
      splits = λ t (g, (a, (i, e))).
          let z = size_within s ok g.width g.height i in
          let cut = columns_same w g.width t (rows_line g.height ++ (frame_lines ++ grid_rows g.width g.height g.values)) (omega (arith, narrow, ok.narrow)) (small_width g.width g.height z) e in
          let low = rows_below s ok w wide narrow g.height i.low (subst (λ (n : ℕ). n * g.height ≤ s.most_pixels) (sym cut.0) i.few) in
          (rows_line g.height, frame_lines ++ grid_rows g.width g.height g.values, ((codes "nrows " ++ decimal g.height, ((g.height, (i.high, (low, refl))), refl)), cut.1));
      extends = λ p (line, ((n, (low, (high, e))), f)).
          let more = frame_lines ++ grid_rows w n zero_field in
          (more, subst (λ (l : List ℕ). IsGridTextIn s (columns_line w ++ (l ++ more))) (sym (f ∙ ap (λ (l : List ℕ). l ++ 10 ∷ []) e)) (some_grid w n (within_at s ok w wide narrow n low high)));
      whole = (count_code (codes "nrows ") s.least_height (most_rows s w) rows_inside (omega (arith, ok.low))).whole;
      free = (count_code (codes "nrows ") s.least_height (most_rows s w) rows_inside (omega (arith, ok.low))).free;
    }

    pub grid_after : (h : ℕ) → s.least_height ≤ h → h ≤ most_rows s w → ComesAfter (columns_line w ++ rows_line h) (IsBodyText w h) (IsGridTextIn s)
    grid_after h high low =
        let z = sized_within s ok w wide narrow h high low in
        record {
          whole = size_whole w h;
          to = λ t (v, (long, e)). (record { width = w; height = h; values = v }, (long, (within_at s ok w wide narrow h high low, append_assoc (columns_line w) (rows_line h) t ∙ ap (λ (l : List ℕ). columns_line w ++ (rows_line h ++ l)) e)));
          «from» = λ t (g, (a, (i, e))).
              let same = sizes_cancel w h g.width g.height t (frame_lines ++ grid_rows g.width g.height g.values) z (size_within s ok g.width g.height i) (sym (append_assoc (columns_line w) (rows_line h) t) ∙ e) in
              body_of w h g.width g.height g.values t same.width same.height a same.rest;
        }

-- ---- the four lines that are the same in every grid

pub frame_whole : AreWholeLines frame_lines
unfolding frame_lines
frame_whole = whole_line (codes "xllcorner 0\nyllcorner 0\ncellsize 1\nNODATA_value -9223372036854775808")

-- ---- the parts of the body

pub body_first : (w h : ℕ) → ComesFirst (IsText frame_lines) (IsBodyText w h)
body_first w h = record {
  splits = λ t (v, (long, e)). (frame_lines, grid_rows w h v, (refl, e));
  extends = λ p e. (grid_rows w h zero_field, (zero_field, (zero_fits w h, ap (λ (l : List ℕ). l ++ grid_rows w h zero_field) e)));
  whole = λ p e. subst AreWholeLines (sym e) frame_whole;
  free = λ p m e f. append_cancel_left p m [] (f ∙ sym e ∙ sym (append-nil p));
}

pub body_after : (w h : ℕ) (p : List ℕ) → IsText frame_lines p → ComesAfter p (IsRowsText w h) (IsBodyText w h)
body_after w h p e = record {
  whole = subst AreWholeLines (sym e) frame_whole;
  to = λ t (v, (long, f)). (v, (long, ap (λ (l : List ℕ). l ++ t) e ∙ ap (λ (l : List ℕ). frame_lines ++ l) f));
  «from» = λ t (v, (long, f)). (v, (long, append_cancel_left frame_lines t (grid_rows w h v) (ap (λ (l : List ℕ). l ++ t) (sym e) ∙ f)));
}

-- ---- grids of any size that has tiles, and of one that is known

pub record IsAnySize (s : Sizes) : Type 0 where
  pub least_width : s.least_width ≡ 1
  pub most_width : s.most_width ≡ 4096
  pub least_height : s.least_height ≡ 1
  pub most_height : s.most_height ≡ 4096
  pub most_pixels : s.most_pixels ≡ 4194304

pub any_sized : (s : Sizes) → IsAnySize s → (w h : ℕ) → HasSizeWithin s w h → IsTrue (is_tiled_size w h)
any_sized s a w h i = sized_by w h (record { wide = omega (arith, i.wide, a.least_width); narrow = omega (arith, i.narrow, a.most_width); high = omega (arith, i.high, a.least_height); low = omega (arith, i.low, a.most_height); few = omega (arith, i.few, a.most_pixels) })

pub any_size : (s : Sizes) → IsAnySize s → SameForms (IsGridTextIn s) IsGridText
any_size s a = record {
  to = λ t (g, (long, (i, e))). (g, (record { sized = any_sized s a g.width g.height i; fits = long }, e));
  «from» = λ t (g, (ok, e)).
      let z = sized_parts g.width g.height ok.sized in
      (g, (ok.fits, (record { wide = omega (arith, z.wide, a.least_width); narrow = omega (arith, z.narrow, a.most_width); high = omega (arith, z.high, a.least_height); low = omega (arith, z.low, a.most_height); few = omega (arith, z.few, a.most_pixels) }, e)));
}

values_of : (w h w' h' : ℕ) (v : Field ℤ) (t : List ℕ) → w ≡ w' → h ≡ h' → AreLong w' h' v → t ≡ grid_text w' h' v → IsGridTextOf w h t
values_of w h w' h' v t e f long g = rw (e, f) (v, (long, g))

abbrev pub known_size : ℕ → ℕ → Sizes
known_size w h = record { least_width = w; most_width = w; least_height = h; most_height = h; most_pixels = 268435456 }

pub known_sizes : (w h : ℕ) → IsTrue (is_raster_size w h) → AreSizes (known_size w h)
known_sizes w h z = let p = wide_parts w h z in record { wide = p.wide; widths = omega arith; narrow = p.narrow; high = p.high; heights = omega arith; low = p.low; few = p.few; pixels = omega arith }

pub one_size : (w h : ℕ) → IsTrue (is_raster_size w h) → SameForms (IsGridTextIn (known_size w h)) (IsGridTextOf w h)
one_size w h z =
    let p = wide_parts w h z in
    record {
      to = λ t (g, (long, (i, e))). values_of w h g.width g.height g.values t (omega (arith, i.wide, i.narrow)) (omega (arith, i.high, i.low)) long e;
      «from» = λ t (v, (long, e)). (record { width = w; height = h; values = v }, (long, (record { wide = omega arith; narrow = omega arith; high = omega arith; low = omega arith; few = p.few }, e)));
    }
