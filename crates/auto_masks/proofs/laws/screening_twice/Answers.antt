use Rattle.auto_masks.proofs.LawLemmas.{twice_can_be_less, twice_is_once, twice_passing}
use Rattle.auto_masks.proofs.laws.screening_twice.Goals as goal

pub returns-clause-passing : goal.returns-clause-passing
returns-clause-passing c = twice_passing

pub returns-clause-same : goal.returns-clause-same
returns-clause-same c = twice_is_once

pub returns-clause-less : goal.returns-clause-less
returns-clause-less c = twice_can_be_less
