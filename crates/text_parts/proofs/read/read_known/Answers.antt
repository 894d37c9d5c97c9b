use Rattle.std.proofs.Common.{refl}
use Rattle.text_lines.proofs.FormLemmas.{in_line}
use Rattle.text_parts.proofs.PartForms.{known_kind}
use Rattle.text_parts.proofs.ReadsLemmas.{reads_parsed, reads_unread}
use Rattle.text_parts.proofs.read.read_known.Goals as goal

pub returns-in_err-read_line : goal.returns-in_err-read_line
returns-in_err-read_line g c =
    reads_unread (known_kind c.args.text.now tt (in_line c.args.text.now c.requires)) c.from_residual.result c.from_residual.ensures.1 c.in_err-read_line.ensures

pub returns : goal.returns
returns g c =
    reads_parsed (known_kind c.args.text.now tt (in_line c.args.text.now c.requires)) c.known_in.result c.parsed.result c.in_ok-read_line.ensures c.line.ensures c.known_in.ensures refl c.parsed.ensures
