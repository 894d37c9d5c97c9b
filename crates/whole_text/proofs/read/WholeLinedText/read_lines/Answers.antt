use Rattle.whole_text.proofs.Forms.{whole_code}
use Rattle.whole_text.proofs.read.WholeLinedText.read_lines.Goals as goal

pub returns : goal.returns
returns g c =
    let r = c.read_lines.ensures in
    record { ends = record { whole = whole_code.whole; free = whole_code.free }; reads = record { advance = r.advance; read = r.read; refused = r.refused } }
