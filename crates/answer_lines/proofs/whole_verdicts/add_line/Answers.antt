use Rattle.std.proofs.Common.{refl}
use Rattle.text_lines.proofs.ChainLemmas.{adds_two}
use Rattle.answer_lines.proofs.whole_verdicts.add_line.Goals as goal

pub returns : goal.returns
returns g c = adds_two c.add_verdict.ensures c.end_line.ensures refl
