use Rattle.report_check.proofs.ReportLemmas.{breaks_in_surfaces, is_certified}
use Rattle.report_check.proofs.report.verdict_on.Goals as goal

pub returns-in-Some-2 : goal.returns-in-Some-2
returns-in-Some-2 c = (c.in_default.ensures, rw (c.in-Some-2.is, c.deref.ensures.value) at c.in_ok-number.ensures)

pub returns-in-Some-3 : goal.returns-in-Some-3
returns-in-Some-3 c =
    breaks_in_surfaces c.args.report.now c.in_default.ensures (rw (c.in_default-2.is, c.deref.ensures.value) at c.in_ok-number.ensures) c.in-Some-3.verdict (rw c.in-Some-3.is at c.in_ok-verdict.ensures)

pub returns-in-None : goal.returns-in-None
returns-in-None c = is_certified c.args.report.now c.in_default.ensures (rw (c.in_default-2.is, c.deref.ensures.value) at c.in_ok-number.ensures) (rw c.in-None.is at c.in_ok-verdict.ensures)
