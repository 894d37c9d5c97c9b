use Rattle.displacement.proofs.MeanLemmas.{floor_held}
use Rattle.displacement.proofs.total.rounded_down.Goals as goal
use Rattle.std.proofs.Common.{rules}

pub returns : goal.returns
returns c = search (rules, floor_held)
