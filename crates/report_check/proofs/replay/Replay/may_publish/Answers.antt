use Rattle.std.proofs.Common.{◌∙◌}
use Rattle.raster_model.specs.declared.script.Command.TheVariants.{Settle}
use Rattle.tile_board.proofs.HeldLemmas.{count_told}
use Rattle.report_check.proofs.ReplayLemmas.{all_kept, all_told, next_is, next_told}
use Rattle.report_check.proofs.replay.Replay.may_publish.Goals as goal
use Rattle.sums_and_lists.proofs.Tests.{true_and_false}

pub returns-then-not-is_next : goal.returns-then-not-is_next
returns-then-not-is_next c H is = (λ t. absurd (cc), λ step. absurd (true_and_false c.is_next.result (next_is is c.args.analyst Settle c.is_next.ensures step.0) c.if-not-is_next.true))

pub returns : goal.returns
returns c H is =
    let all = rw c.deref.ensures.value at c.are_all.ensures in (
      λ t. (
        next_told is c.args.analyst Settle c.is_next.ensures c.if-not-is_next.false,
        c.if-revision-count.false ∙ c.count.ensures ∙ count_told is.past,
        λ e. true_and_false c.is_newest.result (c.is_newest.ensures.1 (is.past.newest ∙ e)) c.if-is_newest.false,
        all_kept is (all.0 t),
      ),
      λ step. all.1 (all_told is step.3),
    )
