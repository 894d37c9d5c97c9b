use Rattle.std.specs.Prelude.{codes}
use Rattle.text_lines.proofs.ParseLemmas.{is_other}
use Rattle.report_text.proofs.ReadLemmas.{no_history}
use Rattle.report_text.proofs.parse.history_of.Goals as goal

pub returns-in_err-entry_of : goal.returns-in_err-entry_of
returns-in_err-entry_of c =
    rw c.from_residual.ensures (no_history c.args.line.now (is_other c.args.line.now (codes "end") c.eq.result c.eq.ensures c.if-eq.false) c.in_err-entry_of.ensures)
