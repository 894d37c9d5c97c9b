use Rattle.whole_check.proofs.SameLemmas.{certified_wholes_are_accepted}
use Rattle.whole_check.proofs.laws.certified_wholes_are_accepted.Goals as goal

pub returns : goal.returns
returns c = certified_wholes_are_accepted
