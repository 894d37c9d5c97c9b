use Rattle.std.proofs.Common.{refl}
use Rattle.text_parts.proofs.LineEnds.{adds_line_two}
use Rattle.report_text.proofs.surface.add_flows.Goals as goal

pub returns-clause-text : goal.returns-clause-text
returns-clause-text g c = adds_line_two c.bytes.ensures c.add_numbers.ensures.added c.end_line.ensures refl
