use Rattle.std.proofs.Common.{refl}
use Rattle.text_lines.proofs.ChainLemmas.{adds_three}
use Rattle.answer_lines.proofs.refusals.add_around.Goals as goal

pub returns : goal.returns
returns g c = adds_three c.bytes.ensures c.number.ensures c.bytes-2.ensures refl
