use Rattle.insar_commands.proofs.WholeLemmas.{wholes_are_accepted}
use Rattle.insar_top.proofs.laws.wholes_are_accepted.Goals as goal

pub returns : goal.returns
returns c = wholes_are_accepted
