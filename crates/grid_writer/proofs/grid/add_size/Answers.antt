use Rattle.text_lines.proofs.AddLemmas.{adds_then}
use Rattle.grid_writer.proofs.grid.add_size.Goals as goal

pub returns : goal.returns
returns g c = adds_then (adds_then c.bytes.ensures c.number.ensures) c.end_line.ensures
