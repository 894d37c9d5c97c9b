use Rattle.std.proofs.Common.{refl}
use Rattle.text_lines.proofs.ChainLemmas.{adds_five}
use Rattle.loop_closure.specs.LoopText.{counts_line}
use Rattle.loop_closure.proofs.text.add_counts.Goals as goal

pub returns : goal.returns
unfolding counts_line
returns g c = adds_five c.bytes.ensures c.add_long_field.ensures c.add_long_field-2.ensures c.add_field.ensures c.end_line.ensures (rw (c.closed.ensures, c.misclosed.ensures, c.count.ensures.value, c.deref.ensures.value, c.deref-2.ensures.value) refl)
