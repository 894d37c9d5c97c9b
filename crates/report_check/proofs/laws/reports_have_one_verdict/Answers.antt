use Rattle.report_check.proofs.UniqueLemmas.{reports_have_one_verdict}
use Rattle.report_check.proofs.laws.reports_have_one_verdict.Goals as goal

pub returns : goal.returns
returns c = reports_have_one_verdict
