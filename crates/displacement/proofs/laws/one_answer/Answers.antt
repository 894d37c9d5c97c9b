use Rattle.displacement.proofs.LawLemmas.{one_answer}
use Rattle.displacement.proofs.laws.one_answer.Goals as goal

pub returns : goal.returns
returns c = one_answer
