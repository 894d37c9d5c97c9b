use Rattle.text_parts.proofs.TextBreaks.{cut_text_has_no_break}
use Rattle.report_text.specs.Contents.{IsReportText}
use Rattle.report_text.proofs.DecideLemmas.{report_or_broken_line}
use Rattle.report_text.proofs.laws.report_or_broken_line.Goals as goal

pub returns-clause-either : goal.returns-clause-either
returns-clause-either c = report_or_broken_line

pub returns-clause-cut : goal.returns-clause-cut
returns-clause-cut c = cut_text_has_no_break IsReportText
