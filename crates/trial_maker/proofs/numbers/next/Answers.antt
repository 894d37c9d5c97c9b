use Rattle.trial_maker.proofs.DrawLemmas.{next_is}
use Rattle.trial_maker.proofs.numbers.next.Goals as goal

pub returns : goal.returns
returns c = next_is c.args.state
