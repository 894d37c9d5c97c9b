-- How long lists of numbers and grids can be as text.
use Rattle.std.proofs.Common.{ℕ, zero, suc, ◌+◌, ◌*◌, ◌≤◌, ◌<◌, ℤ, List, [], ◌∷◌, ◌++◌, length, decimal, arith}
use Rattle.std.specs.Prelude.{codes, IsTrue}
use Rattle.std.specs.Fmt.{signed_decimal}
use Rattle.std.proofs.lemmas.Bool.Decides.{nat_tests}
use Rattle.std.proofs.lemmas.Fmt.{length-decimal-le, length_signed_le}
use Rattle.std.proofs.lemmas.List.{length-append}
use Rattle.std.proofs.lemmas.List.Elements.{All-head, All-tail}
use Rattle.raster_model.specs.Limits.{is_raster_size, is_tiled_size}
use Rattle.raster_model.specs.Sums.{Field}
use Rattle.text_lines.specs.Numbers.{AreLongs, FitsLong, number_text, numbers_line, numbers_text}
use Rattle.text_lines.specs.Text.{texts_below}
use Rattle.text_lines.proofs.NumberLemmas.{magnitude}
use Rattle.text_parts.specs.Text.{ended_line, line_end}
use Rattle.grid_writer.specs.Grid.{columns_line, frame_lines, grid_row, grid_rows, grid_text, rows_line, values_below}
use Rattle.grid_writer.specs.Grids.{AreLong}
use Rattle.grid_writer.proofs.ValueLemmas.{length_values, values_long}

-- a number has at most 20 characters, and a list of them 21 each
signed_short : (n : ℤ) → FitsLong n → length (signed_decimal n) ≤ 20
signed_short n long = let small = magnitude n long in omega (arith, length_signed_le 19 n (omega (arith, small)) small)

pub numbers_short : (row : List ℤ) → AreLongs row → length (numbers_text row) ≤ 21 * length row
unfolding number_text
numbers_short [] a = omega arith
numbers_short (n ∷ row) a =
    omega (arith, length-append (number_text n) (numbers_text row), signed_short n (All-head FitsLong n row a), numbers_short row (All-tail FitsLong n row a))

line_short : (row : List ℤ) → AreLongs row → length (numbers_line row) ≤ 21 * length row
line_short [] a = omega arith
line_short (n ∷ row) a =
    omega (arith, length-append (signed_decimal n) (numbers_text row), signed_short n (All-head FitsLong n row a), numbers_short row (All-tail FitsLong n row a))

-- texts of at most so many bytes, one after the other
pub texts_short : (n most : ℕ) (f : ℕ → List ℕ) → ((k : ℕ) → k < n → length (f k) ≤ most) → length (texts_below n f) ≤ n * most
unfolding texts_below
texts_short zero most f short = omega arith
texts_short (suc n) most f short =
    let before = texts_short n most f (λ k l. short k (omega (arith, l))) in
    omega (arith, length-append (texts_below n f) (f n), before, short n (omega arith))

-- a line and its end
pub ended_short : {A : Type 0} (line : A → List ℕ) (a : A) (most : ℕ) → length (line a) ≤ most → length (ended_line line a) ≤ most + 1
ended_short line a most short = omega (arith, length-append (line a) line_end, short)

-- the rows of a grid, and the grid
grid_row_short : (values : Field ℤ) (width height y : ℕ) → AreLong width height values → y < height → length (grid_row values width y) ≤ 21 * width + 1
grid_row_short values width height y long lt =
    let row = values_below width (λ x. values x y) in
    let short = line_short row (values_long width (λ x. values x y) (λ x l. long x y l lt)) in
    omega (arith, length-append (numbers_line row) (10 ∷ []), short, length_values width (λ x. values x y))

grid_rows_short : (width height : ℕ) (values : Field ℤ) → AreLong width height values → length (grid_rows width height values) ≤ height * (21 * width + 1)
unfolding grid_rows
grid_rows_short width height values long = texts_short height (21 * width + 1) (grid_row values width) (λ y lt. grid_row_short values width height y long lt)

columns_short : (width : ℕ) → width ≤ 65535 → length (columns_line width) ≤ 16
unfolding columns_line
columns_short width le = omega (arith, length-append (codes "ncols " ++ decimal width) (10 ∷ []), length-append (codes "ncols ") (decimal width), length-decimal-le 5 width (omega arith) (omega (arith, le)) (omega (arith, le)))

rows_short : (height : ℕ) → height ≤ 65535 → length (rows_line height) ≤ 16
unfolding rows_line
rows_short height le = omega (arith, length-append (codes "nrows " ++ decimal height) (10 ∷ []), length-append (codes "nrows ") (decimal height), length-decimal-le 5 height (omega arith) (omega (arith, le)) (omega (arith, le)))

frame_short : length frame_lines ≤ 96
unfolding frame_lines
frame_short = omega arith

pub whole_grid_short : (width height : ℕ) (values : Field ℤ) → AreLong width height values → width ≤ 65535 → height ≤ 65535 → length (grid_text width height values) ≤ 128 + height * (21 * width + 1)
whole_grid_short width height values long wide high =
    let rows = grid_rows width height values in
    omega (
      arith,
      length-append (columns_line width) (rows_line height ++ (frame_lines ++ rows)),
      length-append (rows_line height) (frame_lines ++ rows),
      length-append frame_lines rows,
      columns_short width wide,
      rows_short height high,
      frame_short,
      grid_rows_short width height values long,
    )

pub grid_short : (width height : ℕ) (values : Field ℤ) → AreLong width height values → width ≤ 4096 → height ≤ 4096 → length (grid_text width height values) ≤ 128 + height * (21 * width + 1)
grid_short width height values long wide high = whole_grid_short width height values long (omega (arith, wide)) (omega (arith, high))

-- a raster has pixels, and not too many
pub whole_pixels : (width height : ℕ) → IsTrue (is_raster_size width height) → (1 ≤ width) × (1 ≤ height)
whole_pixels width height sized = (grind (arith, nat_tests), grind (arith, nat_tests))

pub some_pixels : (width height : ℕ) → IsTrue (is_tiled_size width height) → (1 ≤ width) × (1 ≤ height) × (width * height ≤ 4194304)
some_pixels width height sized = (grind (arith, nat_tests), grind (arith, nat_tests), grind (arith, nat_tests))
