use Rattle.std.proofs.Common.{refl}
use Rattle.text_lines.proofs.ChainLemmas.{adds_three}
use Rattle.answer_lines.proofs.refusals.add_input_line.Goals as goal

pub returns : goal.returns
returns g c = adds_three c.bytes.ensures c.add_fault.ensures c.end_line.ensures refl
