use Rattle.whole_check.proofs.SameLemmas.{acceptance_is_of_texts}
use Rattle.whole_check.proofs.laws.acceptance_is_of_texts.Goals as goal

pub returns : goal.returns
returns c = acceptance_is_of_texts
