use Rattle.insar_top.proofs.CheckLemmas.{answers_are_accepted}
use Rattle.insar_top.proofs.laws.answers_are_accepted.Goals as goal

pub returns : goal.returns
returns c = answers_are_accepted
