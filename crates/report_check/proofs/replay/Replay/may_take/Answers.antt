use Rattle.raster_model.specs.declared.script.Command.TheVariants.{Change}
use Rattle.report_check.proofs.ReplayLemmas.{next_is, next_told}
use Rattle.report_check.proofs.replay.Replay.may_take.Goals as goal

pub returns-in-Revised : goal.returns-in-Revised
returns-in-Revised c H is =
    let change = Change c.in-Revised.edit in
    rw c.in-Revised.is (λ t. next_told is c.in-Revised.analyst change c.is_next.ensures t, λ step. next_is is c.in-Revised.analyst change c.is_next.ensures step)
