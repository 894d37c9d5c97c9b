-- Closures as text: a line of counts, a line for each patch, the grid of closures and the grid of cycles.
use Rattle.std.specs.Prelude.{ℕ, List, ◌++◌, codes}
use Rattle.std.specs.List.{count_by}
use Rattle.auto_masks.specs.Patches.{first_column, first_row, patch_size}
use Rattle.grid_writer.specs.Grids.{grid_of, text_of_grid, value_at}
use Rattle.text_lines.specs.Numbers.{number_text}
use Rattle.text_lines.specs.Text.{field_text, texts_below}
use Rattle.loop_closure.specs.declared.loops.Loops.{Loops}
use Rattle.grid_writer.specs.Values.{is_value}
use Rattle.loop_closure.specs.Closure.{is_misclosed}

-- how many pixels have a closure, and how many are misclosed
abbrev pub closed_count : Loops → ℕ
closed_count loops = count_by is_value loops.closures.values.items

abbrev pub misclosed_count : Loops → ℕ
misclosed_count loops = count_by is_misclosed loops.cycles.values.items

unfoldable pub counts_line : Loops → List ℕ
counts_line loops = codes "closure" ++ (field_text (closed_count loops) ++ (field_text (misclosed_count loops) ++ (field_text loops.patches.count ++ codes "\n")))

-- the line of a patch: the column and the row of its first pixel, its size, and its cycles
unfoldable pub patch_line : Loops → ℕ → List ℕ
patch_line loops n =
    codes "patch"
    ++ (field_text (first_column loops.patches n)
    ++ (field_text (first_row loops.patches n)
    ++ (field_text (patch_size loops.patches n) ++ (number_text (value_at loops.cycles.width loops.cycles.values.items (first_column loops.patches n) (first_row loops.patches n)) ++ codes "\n"))))

abbrev pub loops_text : Loops → List ℕ
loops_text loops = counts_line loops ++ (texts_below loops.patches.count (patch_line loops) ++ (text_of_grid (grid_of loops.closures) ++ text_of_grid (grid_of loops.cycles)))
