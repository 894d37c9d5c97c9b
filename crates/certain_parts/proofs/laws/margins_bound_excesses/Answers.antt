use Rattle.certain_parts.proofs.Agreeing.{margins_bound}
use Rattle.certain_parts.proofs.laws.margins_bound_excesses.Goals as goal

pub returns : goal.returns
returns c = margins_bound
