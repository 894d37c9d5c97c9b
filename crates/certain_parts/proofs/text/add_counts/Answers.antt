use Rattle.std.proofs.Common.{refl}
use Rattle.text_lines.proofs.ChainLemmas.{adds_five}
use Rattle.certain_parts.specs.PartsText.{parts_line}
use Rattle.certain_parts.proofs.text.add_counts.Goals as goal

pub returns : goal.returns
unfolding parts_line
returns g c = adds_five c.bytes.ensures c.add_field.ensures c.add_field-2.ensures c.add_field-3.ensures c.end_line.ensures (rw c.count.ensures.value refl)
