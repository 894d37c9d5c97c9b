use Rattle.std.proofs.Common.{refl}
use Rattle.text_lines.proofs.ChainLemmas.{adds_two}
use Rattle.answer_lines.proofs.verdicts.add_history.Goals as goal

pub returns : goal.returns
returns g c = adds_two c.bytes.ensures c.add_long_field.ensures refl
