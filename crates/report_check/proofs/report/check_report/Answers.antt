use Rattle.std.proofs.lemmas.Result.{IfOk-weaker}
use Rattle.report_text.specs.Contents.{report_told}
use Rattle.report_text.proofs.CertifiedLemmas.{certified_reports_are_best}
use Rattle.report_check.proofs.ReportLemmas.{accepted_tells}
use Rattle.report_check.proofs.report.check_report.Goals as goal

pub returns-clause-accepted : goal.returns-clause-accepted
returns-clause-accepted c = IfOk-weaker c.verdict_on.result _ _ (accepted_tells c.args.session.now (report_told c.args.report.now)) c.verdict_on.ensures

pub returns-clause-best : goal.returns-clause-best
returns-clause-best c =
    let s = c.args.session.now in
    let v = report_told c.args.report.now in
    IfOk-weaker c.verdict_on.result _ _ (λ a h e. certified_reports_are_best s v ((accepted_tells s v a h).0 e)) c.verdict_on.ensures
