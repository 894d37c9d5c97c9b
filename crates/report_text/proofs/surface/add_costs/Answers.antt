use Rattle.std.proofs.Common.{refl}
use Rattle.text_parts.proofs.LineEnds.{adds_line_three}
use Rattle.report_text.proofs.surface.add_costs.Goals as goal

pub returns-clause-text : goal.returns-clause-text
returns-clause-text g c = adds_line_three c.bytes.ensures c.add_wide_field.ensures c.add_wide_field-2.ensures c.end_line.ensures refl
