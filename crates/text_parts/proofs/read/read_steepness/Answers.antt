use Rattle.std.proofs.Common.{refl}
use Rattle.text_parts.proofs.PartForms.{steep_kind}
use Rattle.text_parts.proofs.ReadsLemmas.{reads_parsed, reads_unread}
use Rattle.text_parts.proofs.read.read_steepness.Goals as goal

pub returns-in_err-read_line : goal.returns-in_err-read_line
returns-in_err-read_line g c = reads_unread steep_kind c.from_residual.result c.from_residual.ensures.1 c.in_err-read_line.ensures

pub returns : goal.returns
returns g c = reads_parsed steep_kind c.steepness_of.result c.parsed.result c.in_ok-read_line.ensures c.line.ensures c.steepness_of.ensures refl c.parsed.ensures
