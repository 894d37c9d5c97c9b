use Rattle.std.proofs.Common.{refl}
use Rattle.text_parts.proofs.PartForms.{whole_size_kind}
use Rattle.text_parts.proofs.ReadsLemmas.{reads_parsed, reads_unread}
use Rattle.text_parts.proofs.read.read_whole_size.Goals as goal

pub returns-in_err-read_line : goal.returns-in_err-read_line
returns-in_err-read_line g c = reads_unread whole_size_kind c.from_residual.result c.from_residual.ensures.1 c.in_err-read_line.ensures

pub returns : goal.returns
returns g c = reads_parsed whole_size_kind c.whole_size_of.result c.parsed.result c.in_ok-read_line.ensures c.line.ensures c.whole_size_of.ensures refl c.parsed.ensures
