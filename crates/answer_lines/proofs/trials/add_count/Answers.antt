use Rattle.std.proofs.Common.{refl}
use Rattle.text_lines.proofs.ChainLemmas.{adds_three}
use Rattle.answer_lines.proofs.trials.add_count.Goals as goal

pub returns : goal.returns
returns g c = adds_three c.bytes.ensures c.number.ensures c.end_line.ensures refl
