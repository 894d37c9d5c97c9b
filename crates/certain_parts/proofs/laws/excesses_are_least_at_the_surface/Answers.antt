use Rattle.certain_parts.proofs.Agreeing.{excesses_are_least}
use Rattle.certain_parts.proofs.laws.excesses_are_least_at_the_surface.Goals as goal

pub returns : goal.returns
returns c = excesses_are_least
