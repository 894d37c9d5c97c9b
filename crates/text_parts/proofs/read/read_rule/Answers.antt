use Rattle.std.proofs.Common.{refl}
use Rattle.text_parts.proofs.PartForms.{rule_kind}
use Rattle.text_parts.proofs.ReadsLemmas.{reads_parsed, reads_unread}
use Rattle.text_parts.proofs.read.read_rule.Goals as goal

pub returns-in_err-read_line : goal.returns-in_err-read_line
returns-in_err-read_line g c = reads_unread rule_kind c.from_residual.result c.from_residual.ensures.1 c.in_err-read_line.ensures

pub returns : goal.returns
returns g c = reads_parsed rule_kind c.rule_of.result c.parsed.result c.in_ok-read_line.ensures c.line.ensures c.rule_of.ensures refl c.parsed.ensures
