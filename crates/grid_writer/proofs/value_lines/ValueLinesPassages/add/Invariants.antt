use Rattle.std.proofs.Common.{ℕ, ◌-◌, ◌<◌, ◌≤◌}
use Rattle.text_lines.specs.Adding.{Adds}
use Rattle.text_lines.specs.Views.{view_of}
use Rattle.text_pages.specs.Passages.{texts_from}
use Rattle.grid_writer.specs.Grid.{grid_row}
use Rattle.grid_writer.specs.Grids.{IsLongRow, grid_of}
use Rattle.grid_writer.proofs.value_lines.ValueLinesPassages.add.Given as goal

abbrev pub invariant-loop-y : goal.invariant-loop-y
invariant-loop-y g l = let grid = grid_of l.self.grid.now in record {
  added : Adds (view_of g.K.Sink.held g.K.Sink.faults l.fn.text) (view_of g.K.Sink.held g.K.Sink.faults l.text) (texts_from (grid_row grid.values grid.width) l.from (l.y - l.from));
  longs : (y : ℕ) → l.from ≤ y → y < l.y → IsLongRow grid y;
}
