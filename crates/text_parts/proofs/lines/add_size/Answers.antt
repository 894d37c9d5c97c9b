use Rattle.std.proofs.Common.{refl}
use Rattle.text_parts.proofs.LineEnds.{adds_line_three}
use Rattle.text_parts.proofs.lines.add_size.Goals as goal

pub returns : goal.returns
returns g c = adds_line_three c.bytes.ensures c.add_field.ensures c.add_field-2.ensures c.end_line.ensures refl
