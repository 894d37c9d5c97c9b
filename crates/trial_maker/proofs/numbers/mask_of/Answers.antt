use Rattle.std.proofs.Common.{arith}
use Rattle.trial_maker.proofs.DrawLemmas.{masked_is, open_is}
use Rattle.trial_maker.proofs.numbers.mask_of.Goals as goal

pub returns-then-state-eq0-clause-value : goal.returns-then-state-eq0-clause-value
returns-then-state-eq0-clause-value c = masked_is c.args.state (omega arith)

pub returns-else-state-eq0-clause-value : goal.returns-else-state-eq0-clause-value
returns-else-state-eq0-clause-value c = open_is c.args.state (omega arith)
