use Rattle.std.proofs.Common.{refl}
use Rattle.text_lines.specs.Text.{field_text}
use Rattle.text_lines.proofs.ChainLemmas.{adds_two}
use Rattle.text_lines.proofs.fields.add_field.Goals as goal

pub returns : goal.returns
unfolding field_text
returns g c = adds_two c.space.ensures c.number.ensures refl
