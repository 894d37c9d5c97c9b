use Rattle.std.proofs.Common.{refl}
use Rattle.text_lines.proofs.ChainLemmas.{adds_three}
use Rattle.answer_lines.proofs.verdicts.add_seams.Goals as goal

pub returns : goal.returns
returns g c = adds_three c.add_start.ensures c.bytes.ensures c.add_seam_words.ensures refl
