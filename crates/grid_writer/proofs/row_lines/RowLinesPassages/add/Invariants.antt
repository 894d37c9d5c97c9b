use Rattle.std.proofs.Common.{◌≡◌, ℕ, ◌-◌, ◌<◌, ◌≤◌, length}
use Rattle.text_lines.specs.Adding.{Adds}
use Rattle.text_lines.specs.Views.{view_of}
use Rattle.text_pages.specs.Passages.{texts_from}
use Rattle.grid_writer.specs.Grid.{grid_row}
use Rattle.grid_writer.specs.Grids.{IsLongRow}
use Rattle.grid_writer.proofs.row_lines.RowLinesPassages.add.Given as goal

abbrev pub invariant-loop-y : goal.invariant-loop-y
invariant-loop-y g l = let grid = g.R.Rows.grid l.self.rows.now in record {
  added : Adds (view_of g.K.Sink.held g.K.Sink.faults l.fn.text) (view_of g.K.Sink.held g.K.Sink.faults l.text) (texts_from (grid_row grid.values grid.width) l.from (l.y - l.from));
  size : length l.row ≡ 4096;
  longs : (y : ℕ) → l.from ≤ y → y < l.y → IsLongRow grid y;
}
