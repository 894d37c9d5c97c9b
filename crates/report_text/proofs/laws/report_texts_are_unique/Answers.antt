use Rattle.report_text.proofs.SameReports.{reports_unique}
use Rattle.report_text.proofs.laws.report_texts_are_unique.Goals as goal

pub returns : goal.returns
returns c = reports_unique
