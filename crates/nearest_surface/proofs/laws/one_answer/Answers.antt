use Rattle.nearest_surface.proofs.LawLemmas.{one_answer}
use Rattle.nearest_surface.proofs.laws.one_answer.Goals as goal

pub returns : goal.returns
returns c = one_answer
