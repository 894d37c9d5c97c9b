use Rattle.text_parts.proofs.TextAnswers.{accepts, refuses}
use Rattle.whole_text.specs.Reading.{whole_told}
use Rattle.whole_text.specs.Text.{IsWhole, whole_text}
use Rattle.whole_text.proofs.read.read_whole.Goals as goal

pub returns : goal.returns
returns g c =
    let a = c.read_to_end.ensures in
    let r = a.reads in
    record {
      same_source = a.same_source;
      same_limit = a.same_limit;
      moves = a.moves;
      read = r.0;
      fits = r.1.0;
      refused = r.1.1;
      accepted = accepts whole_told IsWhole whole_text _ c.read_to_end.result r;
      exact = refuses whole_told IsWhole whole_text _ c.read_to_end.result r;
    }
