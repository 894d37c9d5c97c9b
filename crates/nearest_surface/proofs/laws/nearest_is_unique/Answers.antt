use Rattle.nearest_surface.proofs.LawLemmas.{nearest_unique}
use Rattle.nearest_surface.proofs.laws.nearest_is_unique.Goals as goal

pub returns : goal.returns
returns c = nearest_unique
