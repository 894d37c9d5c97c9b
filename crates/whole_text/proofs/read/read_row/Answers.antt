use Rattle.std.proofs.Common.{refl}
use Rattle.text_parts.proofs.ReadsLemmas.{reads_parsed, reads_starved, reads_unread}
use Rattle.whole_text.proofs.Forms.{row_kind}
use Rattle.whole_text.proofs.read.read_row.Goals as goal

pub returns-in_err-read_line : goal.returns-in_err-read_line
returns-in_err-read_line g c = reads_unread (row_kind c.args.across) c.from_residual.result c.from_residual.ensures.1 c.in_err-read_line.ensures

pub returns-in_err-faces_of : goal.returns-in_err-faces_of
returns-in_err-faces_of g c = reads_starved c.from_residual-in_err-faces_of.result c.from_residual-in_err-faces_of.ensures.1 c.in_ok-read_line.ensures.advance

pub returns : goal.returns
returns g c = reads_parsed (row_kind c.args.across) c.in_ok-faces_of.field-0 c.parsed.result c.in_ok-read_line.ensures c.line.ensures c.in_ok-faces_of.ensures refl c.parsed.ensures
