use Rattle.std.proofs.Common.{◌∙◌, sym}
use Rattle.raster_model.specs.declared.script.Command.TheVariants.{Settle}
use Rattle.tile_board.proofs.HeldLemmas.{count_told}
use Rattle.report_check.proofs.ReplayLemmas.{next_is, next_told}
use Rattle.report_check.proofs.replay.Replay.may_settle.Goals as goal
use Rattle.sums_and_lists.proofs.Tests.{true_and_false}

pub returns-then-not-is_next : goal.returns-then-not-is_next
returns-then-not-is_next c H is = (λ t. absurd (cc), λ step. absurd (true_and_false c.is_next.result (next_is is c.args.analyst Settle c.is_next.ensures step.0) c.if-not-is_next.true))

pub returns : goal.returns
returns c H is =
    let next = next_told is c.args.analyst Settle c.is_next.ensures c.if-not-is_next.false in
    let revision = c.if-revision-count.false ∙ c.count.ensures ∙ count_told is.past in
    (λ t. (next, revision, sym is.past.newest ∙ c.is_newest.ensures.0 t), λ step. c.is_newest.ensures.1 (is.past.newest ∙ step.2))
