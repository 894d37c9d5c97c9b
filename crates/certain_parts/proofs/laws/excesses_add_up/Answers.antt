use Rattle.certain_parts.proofs.Excesses.{excesses_add_up}
use Rattle.certain_parts.proofs.laws.excesses_add_up.Goals as goal

pub returns : goal.returns
returns c = excesses_add_up
