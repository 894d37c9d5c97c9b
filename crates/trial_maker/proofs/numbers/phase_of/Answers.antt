use Rattle.std.proofs.Common.{refl}
use Rattle.trial_maker.specs.Trials.{phase_of}
use Rattle.trial_maker.proofs.numbers.phase_of.Goals as goal

pub returns : goal.returns
unfolding phase_of
returns c = refl
