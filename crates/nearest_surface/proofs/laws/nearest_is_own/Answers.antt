use Rattle.nearest_surface.proofs.LawLemmas.{nearest_own}
use Rattle.nearest_surface.proofs.laws.nearest_is_own.Goals as goal

pub returns : goal.returns
returns c = nearest_own
