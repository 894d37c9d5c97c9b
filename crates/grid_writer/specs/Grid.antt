-- An Esri ASCII raster, in the one spelling of this project.
use Rattle.std.specs.Prelude.{ℕ, zero, suc, ℤ, List, [], ◌∷◌, ◌++◌, codes, decimal}
use Rattle.raster_model.specs.Sums.{Field}
use Rattle.text_lines.specs.Numbers.{numbers_line}
use Rattle.text_lines.specs.Text.{texts_below}

-- the values f 0, f 1 .. f (n - 1)
unfoldable pub values_below : ℕ → (ℕ → ℤ) → List ℤ
values_below zero f = []
values_below (suc n) f = values_below n f ++ f n ∷ []

-- the six lines of the header: the size, and what is the same in every grid; the NODATA value stands at masked pixels
unfoldable pub columns_line : ℕ → List ℕ
columns_line width = (codes "ncols " ++ decimal width) ++ 10 ∷ []

unfoldable pub rows_line : ℕ → List ℕ
rows_line height = (codes "nrows " ++ decimal height) ++ 10 ∷ []

unfoldable pub frame_lines : List ℕ
frame_lines = codes "xllcorner 0\nyllcorner 0\ncellsize 1\nNODATA_value -9223372036854775808\n"

-- all six
abbrev pub header_lines : ℕ → ℕ → List ℕ
header_lines width height = columns_line width ++ (rows_line height ++ frame_lines)

-- a row of values with a space between them, and its LF; the rows from the top
abbrev pub grid_row : Field ℤ → ℕ → ℕ → List ℕ
grid_row values width y = numbers_line (values_below width (λ x. values x y)) ++ 10 ∷ []

unfoldable pub grid_rows : ℕ → ℕ → Field ℤ → List ℕ
grid_rows width height values = texts_below height (grid_row values width)

-- the grid of a value at each pixel (x, y)
abbrev pub grid_text : ℕ → ℕ → Field ℤ → List ℕ
grid_text width height values = columns_line width ++ (rows_line height ++ (frame_lines ++ grid_rows width height values))
