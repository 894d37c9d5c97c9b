use Rattle.displacement.proofs.LawLemmas.{cycles_are_halves}
use Rattle.displacement.proofs.laws.cycles_are_half_wavelengths.Goals as goal

pub returns : goal.returns
returns c = cycles_are_halves
