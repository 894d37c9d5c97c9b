use Rattle.std.proofs.Common.{refl}
use Rattle.answer_lines.specs.WatchLines.{reader_line}
use Rattle.text_lines.proofs.ChainLemmas.{adds_four}
use Rattle.answer_lines.proofs.watching.add_reader.Goals as goal

pub returns : goal.returns
unfolding reader_line
returns g c = adds_four c.bytes.ensures c.add_field.ensures c.add_seen.ensures c.end_line.ensures refl
