use Rattle.std.proofs.Common.{refl}
use Rattle.text_parts.proofs.LineEnds.{adds_line_two}
use Rattle.text_parts.proofs.lines.add_rule.Goals as goal

pub returns : goal.returns
returns g c = adds_line_two c.bytes.ensures (rw c.rule_name.ensures at c.bytes-2.ensures) c.end_line.ensures refl
