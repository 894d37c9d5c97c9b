-- Parts as text: a line of counts, a line for each part, and the grid of the labels.
use Rattle.std.specs.Prelude.{ℕ, ◌+◌, pos, Bool, List, ◌++◌, codes, if◌then◌else◌}
use Rattle.raster_model.specs.Sums.{Field}
use Rattle.text_lines.specs.Text.{field_text, texts_below}
use Rattle.text_lines.specs.Numbers.{numbers_line}
use Rattle.grid_writer.specs.Grid.{values_below}
use Rattle.grid_writer.specs.Grids.{GridOf, text_of_grid}
use Rattle.grid_writer.specs.Values.{no_data}
use Rattle.certain_parts.specs.Labels.{first_column, first_row, label_at, part_size}
use Rattle.certain_parts.specs.PartsView.{PartsView}

-- how many parts there are, the limit, and the least size
unfoldable pub parts_line : PartsView → ℕ → ℕ → List ℕ
parts_line parts limit least = codes "parts" ++ (field_text parts.count ++ (field_text limit ++ (field_text least ++ codes "\n")))

-- the line of a part: the column and the row of its first pixel, and its size; the lines of all parts, from part 1 on
unfoldable pub part_line : PartsView → ℕ → List ℕ
part_line parts n = codes "part" ++ (field_text (first_column parts n) ++ (field_text (first_row parts n) ++ (field_text (part_size parts n) ++ codes "\n")))

abbrev pub part_lines : PartsView → ℕ → List ℕ
part_lines parts count = texts_below count (λ i. part_line parts (i + 1))

-- the label of each open pixel, and the NODATA value at each masked one
abbrev pub labels_grid : PartsView → Field Bool → GridOf
labels_grid parts mask = record { width = parts.width; height = parts.height; values = λ x y. if mask x y then pos (label_at parts x y) else no_data }

-- the values of the first n pixels of a row of that grid, with a space between them
unfoldable pub labels_line : PartsView → Field Bool → ℕ → ℕ → List ℕ
labels_line parts mask y n = numbers_line (values_below n (λ x. (labels_grid parts mask).values x y))

abbrev pub parts_text : PartsView → Field Bool → ℕ → ℕ → List ℕ
parts_text parts mask limit least = parts_line parts limit least ++ (part_lines parts parts.count ++ text_of_grid (labels_grid parts mask))
