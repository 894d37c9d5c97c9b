use Rattle.answer_lines.proofs.SeenLemmas.{seen_end_with_the_last}
use Rattle.answer_lines.proofs.laws.seen_end_with_the_last.Goals as goal

pub returns : goal.returns
returns c = seen_end_with_the_last
