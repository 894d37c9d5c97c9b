use Rattle.std.proofs.Common.{◌≡◌, ◌*◌, length}
use Rattle.insar_ports.specs.Calls.{Moves, call_of}
use Rattle.insar_ports.specs.Feeding.{limit_of, source_name}
use Rattle.text_lines.specs.Forms.{IsText}
use Rattle.text_lines.specs.LineWords.{TakesLines, lines_read}
use Rattle.text_lines.specs.Numbers.{AreLongs}
use Rattle.grid_writer.specs.Grid.{grid_rows}
use Rattle.grid_writer.specs.Grids.{value_at}
use Rattle.grid_writer.proofs.read.read_rows.Given as goal

abbrev pub invariant-loop : goal.invariant-loop
invariant-loop g l = record {
  name : source_name l.feed ≡ source_name l.fn.feed;
  limit : limit_of l.feed ≡ limit_of l.fn.feed;
  moves : Moves (call_of g.S.Source.left g.S.Source.faults l.fn.feed l.feed);
  full : length l.values.items ≡ l.counter * l.width;
  longs : AreLongs l.values.items;
  taken : TakesLines (IsText (grid_rows l.width l.counter (value_at l.width l.values.items))) (lines_read l.fn.lines) (lines_read l.lines) (call_of g.S.Source.left g.S.Source.faults l.fn.feed l.feed);
}
