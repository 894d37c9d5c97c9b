use Rattle.std.proofs.Common.{refl}
use Rattle.trial_maker.specs.Trials.{weight_of}
use Rattle.trial_maker.proofs.numbers.weight_of.Goals as goal

pub returns-clause-value : goal.returns-clause-value
unfolding weight_of
returns-clause-value c = refl
