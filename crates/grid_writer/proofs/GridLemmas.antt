-- The text of a grid from its parts.
use Rattle.std.proofs.Common.{ℕ, List, ◌++◌, append_assoc, sym, ap, ◌∙◌}
use Rattle.std.specs.Prelude.{IsTrue}
use Rattle.raster_model.specs.Limits.{is_tiled_size}
use Rattle.text_pages.specs.Passages.{AddsAll}
use Rattle.text_lines.specs.Adding.{Adds, View}
use Rattle.text_lines.specs.Text.{texts_below}
use Rattle.text_lines.proofs.AddLemmas.{adds_then}
use Rattle.text_lines.proofs.ChainLemmas.{adds_is}
use Rattle.grid_writer.specs.Grid.{columns_line, frame_lines, grid_row, grid_rows, rows_line}
use Rattle.grid_writer.specs.Grids.{GridOf, IsLongRow, text_of_grid}
use Rattle.grid_writer.specs.Putting.{AddsGrid}

-- the header and then the rows
pub adds_rows : {v m w : View} (g : GridOf) → Adds v m (columns_line g.width ++ (rows_line g.height ++ frame_lines)) → Adds m w (texts_below g.height (grid_row g.values g.width)) → Adds v w (text_of_grid g)
unfolding grid_rows
adds_rows g p q =
    let rows = grid_rows g.width g.height g.values in
    adds_is (adds_then p q) (sym (append_assoc (columns_line g.width) (rows_line g.height ++ frame_lines) rows ∙ ap (λ (l : List ℕ). columns_line g.width ++ l) (append_assoc (rows_line g.height) frame_lines rows)))

-- so the whole grid, of which each row was added with its values in their range
pub adds_grid : {v m w : View} (g : GridOf) → IsTrue (is_tiled_size g.width g.height) → Adds v m (columns_line g.width ++ (rows_line g.height ++ frame_lines)) → AddsAll m w g.height (grid_row g.values g.width) (IsLongRow g) → AddsGrid v w g
adds_grid g sized head rows = record {
  added = adds_rows g head rows.added;
  ranges = record { sized = sized; fits = λ x y lx ly. rows.known y ly x lx };
}
