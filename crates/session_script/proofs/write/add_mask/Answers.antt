use Rattle.std.proofs.Common.{refl}
use Rattle.text_lines.proofs.ChainLemmas.{adds_two}
use Rattle.session_script.proofs.write.add_mask.Goals as goal

pub returns : goal.returns
returns g c = adds_two (rw (c.width.ensures.value, c.height.ensures.value) at c.add_header.ensures) c.add_rows.ensures refl
