use Rattle.std.proofs.Common.{refl}
use Rattle.report_text.proofs.PartForms.{flows_kind}
use Rattle.text_parts.proofs.ReadsLemmas.{reads_parsed, reads_unread, reads_starved}
use Rattle.report_text.proofs.read.read_flows.Goals as goal

pub returns-in_err-read_line : goal.returns-in_err-read_line
returns-in_err-read_line g c = reads_unread flows_kind c.from_residual.result c.from_residual.ensures.1 c.in_err-read_line.ensures

pub returns-in_err-numbers_after : goal.returns-in_err-numbers_after
returns-in_err-numbers_after g c = reads_starved c.from_residual-in_err-numbers_after.result c.from_residual-in_err-numbers_after.ensures.1 c.in_ok-read_line.ensures.advance

pub returns : goal.returns
returns g c = reads_parsed flows_kind c.in_ok-numbers_after.field-0 c.parsed.result c.in_ok-read_line.ensures c.line.ensures c.in_ok-numbers_after.ensures refl c.parsed.ensures
