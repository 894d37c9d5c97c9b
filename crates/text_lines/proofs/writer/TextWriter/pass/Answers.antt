use Rattle.text_lines.proofs.AddLemmas.{adds_then}
use Rattle.text_lines.proofs.writer.TextWriter.pass.Goals as goal

pub returns-then-piece-room : goal.returns-then-piece-room
returns-then-piece-room g c = adds_then c.empty.ensures.adds c.keep.ensures

pub returns-else-piece-room : goal.returns-else-piece-room
returns-else-piece-room g c = adds_then c.empty.ensures.adds c.straight.ensures
