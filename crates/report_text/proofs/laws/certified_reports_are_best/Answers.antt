use Rattle.report_text.proofs.CertifiedLemmas.{certified_reports_are_best}
use Rattle.report_text.proofs.laws.certified_reports_are_best.Goals as goal

pub returns : goal.returns
returns g = certified_reports_are_best
