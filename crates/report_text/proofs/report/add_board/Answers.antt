use Rattle.std.proofs.Common.{◌∙◌}
use Rattle.report_text.proofs.ItemLemmas.{over_board}
use Rattle.report_text.proofs.report.add_board.Goals as goal

pub add_report-requires-clause-over : goal.add_report-requires-clause-over
add_report-requires-clause-over g c =
    rw (c.deref.ensures ∙ c.session.ensures.value) (over_board c.args.board.now c.snapshots.result.now c.snapshots.ensures.value c.session.ensures.board)

pub returns-clause-text : goal.returns-clause-text
returns-clause-text g c = rw (c.deref.ensures ∙ c.session.ensures.value, c.entries.ensures.value, c.snapshots.ensures.value) at c.add_report.ensures.text

pub returns-clause-small : goal.returns-clause-small
returns-clause-small g c = rw (c.deref.ensures ∙ c.session.ensures.value, c.entries.ensures.value, c.snapshots.ensures.value) at c.add_report.ensures.small
