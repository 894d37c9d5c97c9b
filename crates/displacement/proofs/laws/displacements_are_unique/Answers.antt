use Rattle.displacement.proofs.LawLemmas.{displacements_unique}
use Rattle.displacement.proofs.laws.displacements_are_unique.Goals as goal

pub returns : goal.returns
returns c = displacements_unique
