use Rattle.report_text.proofs.ReportForms.{report_code}
use Rattle.report_text.proofs.read.ReportLinedText.read_lines.Goals as goal

pub returns : goal.returns
returns g c =
    let r = c.read_lines.ensures in
    record { ends = record { whole = report_code.whole; free = report_code.free }; reads = record { advance = r.advance; read = r.read; refused = r.refused } }
