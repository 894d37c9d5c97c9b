use Rattle.std.proofs.Common.{refl}
use Rattle.text_lines.proofs.ChainLemmas.{adds_two}
use Rattle.answer_lines.proofs.refusals.add_numbered.Goals as goal

pub returns : goal.returns
returns g c = adds_two c.bytes.ensures c.number.ensures refl
