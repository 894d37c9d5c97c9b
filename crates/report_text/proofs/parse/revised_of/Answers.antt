use Rattle.std.specs.Prelude.{codes}
use Rattle.text_lines.specs.Parsing.{IsWord}
use Rattle.report_text.specs.Parsing.{IsEditOfWords, IsRevisedOfWords, edit_text, revised_text}
use Rattle.text_lines.proofs.FieldLemmas.{word_wide}
use Rattle.text_lines.proofs.ParseLemmas.{none_after, none_behind, none_taken, stripped}
use Rattle.report_text.proofs.ReadLemmas.{edit_begins}
use Rattle.report_text.proofs.parse.revised_of.Goals as goal

pub returns-in_err-analyst : goal.returns-in_err-analyst
returns-in_err-analyst c =
    let line = stripped c.args.line.now (codes "revised") c.in_ok-strip_prefix.field-0 c.in_ok-strip_prefix.ensures.cases in
    rw c.from_residual-in_err-analyst.ensures (none_behind IsRevisedOfWords revised_text (codes "revised") c.args.line.now _ line (λ p w e. none_taken IsWord word_wide IsEditOfWords edit_text edit_begins _ c.in_err-analyst.ensures p.0 p.1 w.0 w.1 e))

pub returns-in_err-edit_of : goal.returns-in_err-edit_of
returns-in_err-edit_of c =
    let line = stripped c.args.line.now (codes "revised") c.in_ok-strip_prefix.field-0 c.in_ok-strip_prefix.ensures.cases in
    rw c.from_residual-in_err-edit_of.ensures (none_behind IsRevisedOfWords revised_text (codes "revised") c.args.line.now _ line (λ p w e. none_after IsWord word_wide IsEditOfWords edit_text edit_begins _ c.in_ok-analyst.analyst c.in_ok-analyst.edit.now c.in_ok-analyst.ensures c.in_err-edit_of.ensures p.0 p.1 w.0 w.1 e))
