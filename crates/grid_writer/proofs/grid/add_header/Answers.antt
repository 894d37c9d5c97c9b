use Rattle.text_lines.proofs.AddLemmas.{adds_then}
use Rattle.grid_writer.specs.Grid.{columns_line, frame_lines, rows_line}
use Rattle.grid_writer.proofs.grid.add_header.Goals as goal

pub returns : goal.returns
unfolding columns_line rows_line frame_lines
returns g c = adds_then c.add_size.ensures (adds_then c.add_size-2.ensures c.bytes.ensures)
