use Rattle.std.proofs.Common.{refl}
use Rattle.answer_lines.specs.VerdictLines.{edge_text}
use Rattle.text_lines.proofs.ChainLemmas.{adds_three}
use Rattle.answer_lines.proofs.verdicts.add_edge.Goals as goal

pub returns : goal.returns
unfolding edge_text
returns g c = adds_three (rw c.direction_name.ensures at c.bytes.ensures) c.add_field.ensures c.add_field-2.ensures refl
