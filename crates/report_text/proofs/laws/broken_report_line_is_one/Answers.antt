use Rattle.report_text.specs.Contents.{IsReportText}
use Rattle.text_parts.proofs.TextAnswers.{broken_line_is_one}
use Rattle.report_text.proofs.laws.broken_report_line_is_one.Goals as goal

pub returns : goal.returns
returns c = broken_line_is_one IsReportText
