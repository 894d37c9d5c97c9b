use Rattle.std.proofs.Common.{refl}
use Rattle.answer_lines.specs.TrialLines.{four_lines}
use Rattle.text_lines.proofs.ChainLemmas.{adds_four}
use Rattle.answer_lines.proofs.trials.add_lines.Goals as goal

pub returns : goal.returns
unfolding four_lines
returns g c = adds_four c.add_count.ensures c.add_count-2.ensures c.add_count-3.ensures c.add_cost.ensures refl
