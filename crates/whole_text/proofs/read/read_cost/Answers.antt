use Rattle.std.proofs.Common.{refl}
use Rattle.text_parts.proofs.ReadsLemmas.{reads_parsed, reads_unread}
use Rattle.whole_text.proofs.Forms.{cost_kind}
use Rattle.whole_text.proofs.read.read_cost.Goals as goal

pub returns-in_err-read_line : goal.returns-in_err-read_line
returns-in_err-read_line g c = reads_unread cost_kind c.from_residual.result c.from_residual.ensures.1 c.in_err-read_line.ensures

pub returns : goal.returns
returns g c = reads_parsed cost_kind c.cost_of.result c.parsed.result c.in_ok-read_line.ensures c.line.ensures c.cost_of.ensures refl c.parsed.ensures
