use Rattle.std.proofs.Common.{refl}
use Rattle.report_text.proofs.PartForms.{entry_kind}
use Rattle.text_parts.proofs.ReadsLemmas.{on_ok_if, reads_parsed, reads_unread}
use Rattle.report_text.proofs.read.read_entry.Goals as goal

pub returns-in_err-read_line-clause-read : goal.returns-in_err-read_line-clause-read
returns-in_err-read_line-clause-read g c = reads_unread entry_kind c.from_residual.result c.from_residual.ensures.1 c.in_err-read_line.ensures

pub returns-clause-read : goal.returns-clause-read
returns-clause-read g c = reads_parsed entry_kind c.history_of.result c.parsed.result c.in_ok-read_line.ensures c.line.ensures c.history_of.ensures refl c.parsed.ensures

pub returns-clause-further : goal.returns-clause-further
returns-clause-further g c = on_ok_if c.parsed.result c.in_ok-read_line.ensures.further
