use Rattle.std.proofs.Common.{refl}
use Rattle.answer_lines.specs.WatchLines.{published_line}
use Rattle.text_lines.proofs.ChainLemmas.{adds_three}
use Rattle.answer_lines.proofs.watching.add_publication.Goals as goal

pub returns : goal.returns
unfolding published_line
returns g c = adds_three c.bytes.ensures c.add_field.ensures c.end_line.ensures refl
