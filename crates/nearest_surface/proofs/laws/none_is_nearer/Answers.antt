use Rattle.nearest_surface.proofs.LawLemmas.{none_nearer}
use Rattle.nearest_surface.proofs.laws.none_is_nearer.Goals as goal

pub returns : goal.returns
returns c = none_nearer
