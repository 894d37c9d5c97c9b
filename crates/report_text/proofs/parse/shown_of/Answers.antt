use Rattle.std.specs.Prelude.{codes}
use Rattle.report_text.specs.Contents.{MayBeWord}
use Rattle.text_lines.specs.Parsing.{IsWord}
use Rattle.report_text.specs.Parsing.{IsShownOfWords, shown_text}
use Rattle.report_text.specs.Text.{revision_text}
use Rattle.report_text.proofs.EntryLemmas.{revision_begins}
use Rattle.text_lines.proofs.FieldLemmas.{word_wide}
use Rattle.text_lines.proofs.ParseLemmas.{is_other, none_after, none_behind, none_taken, stripped}
use Rattle.report_text.proofs.ReadLemmas.{no_revision}
use Rattle.report_text.proofs.parse.shown_of.Goals as goal

pub returns-in_err-analyst : goal.returns-in_err-analyst
returns-in_err-analyst c =
    let line = stripped c.args.line.now (codes "shown") c.in_ok-strip_prefix.field-0 c.in_ok-strip_prefix.ensures.cases in
    rw c.from_residual-in_err-analyst.ensures (none_behind IsShownOfWords shown_text (codes "shown") c.args.line.now _ line (λ p w e. none_taken IsWord word_wide MayBeWord revision_text (λ o _. revision_begins o) _ c.in_err-analyst.ensures p.0 p.1 w.0 w.1 e))

pub returns-in_err-last_field : goal.returns-in_err-last_field
returns-in_err-last_field c =
    let revision = c.in_ok-analyst.revision.now in
    let line = stripped c.args.line.now (codes "shown") c.in_ok-strip_prefix.field-0 c.in_ok-strip_prefix.ensures.cases in
    let none = no_revision revision (is_other revision (codes " none") c.eq.result c.eq.ensures c.if-eq.false) c.in_err-last_field.ensures in
    rw c.from_residual-in_err-last_field.ensures (none_behind IsShownOfWords shown_text (codes "shown") c.args.line.now _ line (λ p w e. none_after IsWord word_wide MayBeWord revision_text (λ o _. revision_begins o) _ c.in_ok-analyst.analyst revision c.in_ok-analyst.ensures none p.0 p.1 w.0 w.1 e))
