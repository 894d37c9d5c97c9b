use Rattle.auto_masks.proofs.LawLemmas.{all_passing_stay, only_passing_stay}
use Rattle.auto_masks.proofs.laws.what_passes_stays.Goals as goal

pub returns-clause-only : goal.returns-clause-only
returns-clause-only c = only_passing_stay

pub returns-clause-all : goal.returns-clause-all
returns-clause-all c = all_passing_stay
