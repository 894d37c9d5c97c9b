use Rattle.insar_commands.proofs.WholeLemmas.{accepted_wholes_are_least}
use Rattle.insar_top.proofs.laws.accepted_wholes_are_least.Goals as goal

pub returns : goal.returns
returns c = accepted_wholes_are_least
