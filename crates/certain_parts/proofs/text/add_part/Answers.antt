use Rattle.std.proofs.Common.{refl}
use Rattle.text_lines.proofs.ChainLemmas.{adds_five}
use Rattle.certain_parts.specs.PartsText.{part_line}
use Rattle.certain_parts.proofs.text.add_part.Goals as goal

pub returns : goal.returns
unfolding part_line
returns g c = adds_five c.bytes.ensures c.add_field.ensures c.add_field-2.ensures c.add_field-3.ensures c.end_line.ensures (rw (c.first-x.ensures.column, c.first-x.ensures.row, c.size.ensures) refl)
