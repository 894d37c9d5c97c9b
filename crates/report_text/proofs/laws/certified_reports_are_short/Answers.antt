use Rattle.report_text.proofs.ShortReports.{certified_reports_are_short}
use Rattle.report_text.proofs.laws.certified_reports_are_short.Goals as goal

pub returns : goal.returns
returns c = certified_reports_are_short
