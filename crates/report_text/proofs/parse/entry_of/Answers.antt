use Rattle.report_text.proofs.ReadLemmas.{no_entry}
use Rattle.report_text.proofs.parse.entry_of.Goals as goal

pub returns-in_err-analyst : goal.returns-in_err-analyst
returns-in_err-analyst c =
    rw c.from_residual.ensures (no_entry c.args.line.now c.in_default.ensures c.in_default-pair_behind.ensures c.in_default-pair_behind-2.ensures c.in_default-shown_of.ensures c.in_err-analyst.ensures)
