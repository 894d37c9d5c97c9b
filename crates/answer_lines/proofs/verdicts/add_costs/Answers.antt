use Rattle.std.proofs.Common.{refl}
use Rattle.text_lines.proofs.ChainLemmas.{adds_four}
use Rattle.answer_lines.proofs.verdicts.add_costs.Goals as goal

pub returns : goal.returns
returns g c = adds_four c.add_start.ensures c.bytes.ensures c.add_wide_field.ensures c.add_wide_field-2.ensures refl
