use Rattle.raster_model.specs.declared.script.Command.TheVariants.{Show}
use Rattle.report_check.proofs.ReplayLemmas.{next_is, next_told}
use Rattle.report_check.proofs.replay.Replay.may_show.Goals as goal

pub returns-else-is_next : goal.returns-else-is_next
returns-else-is_next c H is = (λ t. (next_told is c.args.analyst Show c.is_next.ensures t, absurd (cc)), λ step. next_is is c.args.analyst Show c.is_next.ensures step.0)
