use Rattle.std.proofs.Common.{refl}
use Rattle.text_parts.proofs.LineEnds.{adds_line_two}
use Rattle.report_text.proofs.report.add_side.Goals as goal

pub returns : goal.returns
returns g c = adds_line_two c.bytes.ensures c.add_field.ensures c.end_line.ensures refl
