use Rattle.std.proofs.Common.{ℕ, ◌++◌, sym, ap, subst, ◌∙◌}
use Rattle.text_lines.proofs.FormLemmas.{ComesAfter}
use Rattle.report_text.specs.Contents.{IsReportText}
use Rattle.report_text.specs.Parts.{AreItems, IsItemsText, front_in, front_text, items_in, items_text}
use Rattle.text_parts.specs.Terms.{terms_of}
use Rattle.report_text.specs.Text.{terms_text}
use Rattle.text_parts.proofs.ReadsLemmas.{reads_first, reads_second, reads_within, reads_ok, took, took_then}
use Rattle.report_text.proofs.ReportForms.{items_after, report_first, report_is, rest_after, terms_first}
use Rattle.report_text.proofs.read.read_lines.Goals as goal

pub returns-in_err-head : goal.returns-in_err-head
returns-in_err-head g c = reads_first c.from_residual.result c.from_residual.ensures.1 report_first c.in_err-head.ensures

pub returns-in_err-terms : goal.returns-in_err-terms
returns-in_err-terms g c =
    let front = front_in c.in_ok-head.head in
    let a = c.in_ok-head.ensures in
    reads_within c.from_residual-in_err-terms.result c.from_residual-in_err-terms.ensures.1 (rest_after front a.read.0) (terms_first front) (took a) c.in_err-terms.ensures

pub returns-in_err-items : goal.returns-in_err-items
returns-in_err-items g c =
    let k = c.in_ok-head.head in
    let front = front_in k in
    let terms = terms_of c.in_ok-terms.terms in
    let a = c.in_ok-head.ensures in
    let b = c.in_ok-terms.ensures in
    let text = front_text front ++ terms_text k.version terms in
    let after : ComesAfter text (IsItemsText k.width k.height k.tiles) IsReportText = subst (λ (t : ℕ). ComesAfter text (IsItemsText k.width k.height t) IsReportText) (sym k.counted) (items_after front a.read.0 terms b.read.0) in
    reads_second c.from_residual-in_err-items.result c.from_residual-in_err-items.ensures.1 after (took_then (took a) (took b)) c.in_err-items.ensures.read

pub returns : goal.returns
returns g c =
    let k = c.in_ok-head.head in
    let a = c.in_ok-head.ensures in
    let b = c.in_ok-terms.ensures in
    let d = c.in_ok-items.ensures.read in
    let items = items_in c.in_ok-items.items in
    let f = a.read.0 in
    reads_ok (took_then (took a) (took_then (took b) (took d))) (record { versioned = f.0; sized = f.1.0; sides = f.1.1.0; terms = b.read.0; items = subst (λ (t : ℕ). AreItems k.width k.height t items) k.counted d.read.0 })
    (ap (λ (t : ℕ). front_text (front_in k) ++ (terms_text k.version (terms_of c.in_ok-terms.terms) ++ items_text k.width k.height t items)) k.counted ∙ sym (report_is _))
