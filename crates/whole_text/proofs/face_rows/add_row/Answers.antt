use Rattle.std.proofs.Common.{refl}
use Rattle.text_parts.proofs.LineEnds.{adds_line_two}
use Rattle.whole_text.proofs.face_rows.add_row.Goals as goal

pub returns : goal.returns
returns g c = adds_line_two c.bytes.ensures c.add_numbers.ensures.added c.end_line.ensures refl
