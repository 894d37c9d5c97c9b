use Rattle.std.proofs.Common.{refl}
use Rattle.text_lines.proofs.ChainLemmas.{adds_three}
use Rattle.report_text.proofs.entry.add_shown.Goals as goal

pub returns : goal.returns
returns g c = adds_three c.bytes.ensures c.add_field.ensures c.add_revision.ensures refl
