use Rattle.std.proofs.Common.{refl}
use Rattle.answer_lines.specs.VerdictLines.{surface_start}
use Rattle.text_lines.proofs.ChainLemmas.{adds_two}
use Rattle.answer_lines.proofs.verdicts.add_start.Goals as goal

pub returns : goal.returns
unfolding surface_start
returns g c = adds_two c.bytes.ensures c.add_field.ensures refl
