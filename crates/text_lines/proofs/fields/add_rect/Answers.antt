use Rattle.std.proofs.Common.{refl}
use Rattle.text_lines.specs.Text.{rect_text}
use Rattle.text_lines.proofs.ChainLemmas.{adds_five}
use Rattle.text_lines.proofs.fields.add_rect.Goals as goal

pub returns : goal.returns
unfolding rect_text
returns g c = adds_five c.bytes.ensures c.add_field.ensures c.add_field-2.ensures c.add_field-3.ensures c.add_field-4.ensures refl
