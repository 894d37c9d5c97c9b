use Rattle.report_check.proofs.EqualReports.{equal_reports_are_certified_alike}
use Rattle.report_check.proofs.laws.equal_reports_are_certified_alike.Goals as goal

pub returns : goal.returns
returns c = equal_reports_are_certified_alike
