use Rattle.std.proofs.Common.{refl}
use Rattle.text_lines.proofs.ChainLemmas.{adds_two}
use Rattle.answer_lines.proofs.verdicts.add_value.Goals as goal

pub returns : goal.returns
returns g c = adds_two c.add_start.ensures c.add_pixel.ensures refl
