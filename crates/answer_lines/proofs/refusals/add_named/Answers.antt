use Rattle.std.proofs.Common.{refl}
use Rattle.text_lines.proofs.ChainLemmas.{adds_two}
use Rattle.answer_lines.proofs.refusals.add_named.Goals as goal

pub returns : goal.returns
returns g c = adds_two c.bytes.ensures (rw c.role_name.ensures at c.bytes-2.ensures) refl
