use Rattle.whole_check.proofs.UniqueLemmas.{wholes_have_one_verdict}
use Rattle.whole_check.proofs.laws.wholes_have_one_verdict.Goals as goal

pub returns : goal.returns
returns c = wholes_have_one_verdict
