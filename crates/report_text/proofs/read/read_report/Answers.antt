use Rattle.report_text.specs.Contents.{IsReport, report_told}
use Rattle.report_text.specs.Text.{report_text}
use Rattle.text_parts.proofs.TextAnswers.{accepts, refuses}
use Rattle.report_text.proofs.read.read_report.Goals as goal

pub returns : goal.returns
returns g c =
    let a = c.read_to_end.ensures in
    let r = a.reads in
    record {
      same_source = a.same_source;
      same_limit = a.same_limit;
      moves = a.moves;
      read = r.0;
      fits = r.1.0;
      refused = r.1.1;
      accepted = accepts report_told IsReport report_text _ c.read_to_end.result r;
      exact = refuses report_told IsReport report_text _ c.read_to_end.result r;
    }
