use Rattle.std.proofs.Common.{refl}
use Rattle.report_text.proofs.LineEnds.{adds_faces}
use Rattle.report_text.proofs.faces.add_tile.Goals as goal

pub returns-clause-text : goal.returns-clause-text
returns-clause-text g c = adds_faces c.bytes.ensures c.add_field.ensures c.add_numbers.ensures.added c.end_line.ensures refl
