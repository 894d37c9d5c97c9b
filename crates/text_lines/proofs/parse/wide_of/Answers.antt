use Rattle.std.proofs.Common.{◌≡◌, ap, decimal, sym, ◌∙◌}
use Rattle.text_lines.proofs.ParseLemmas.{is_other, not_text, number_read, text_is}
use Rattle.text_lines.proofs.parse.wide_of.Goals as goal

pub returns-in_err-ok : goal.returns-in_err-ok
returns-in_err-ok c = rw c.from_residual.ensures (λ n w t. not_text _ c.args.token.now c.from_utf8.result c.from_utf8.ensures.cases (sym c.ok.ensures.value ∙ c.in_err-ok.was {u = tt}) n w t)

pub returns-in_err-number : goal.returns-in_err-number
returns-in_err-number c =
    let text = text_is _ c.args.token.now c.from_utf8.result c.in_ok-ok.field-0 c.from_utf8.ensures.cases (sym c.ok.ensures.value ∙ c.in_ok-ok.was {u = tt}) in
    rw c.from_residual-in_err-number.ensures (λ n w t. let read = number_read 128 n c.in_ok-ok.field-0.now c.parse.result w w (sym text ∙ t) c.parse.ensures.value.0 in cc (read, c.ok-2.ensures.value, c.in_err-number.was {u = tt}))

pub returns-else-eq : goal.returns-else-eq
returns-else-eq c = λ n w t.
    let text = text_is _ c.args.token.now c.from_utf8.result c.in_ok-ok.field-0 c.from_utf8.ensures.cases (sym c.ok.ensures.value ∙ c.in_ok-ok.was {u = tt}) in
    let read = number_read 128 n c.in_ok-ok.field-0.now c.parse.result w w (sym text ∙ t) c.parse.ensures.value.0 in
    let same : c.in_ok-number.number ≡ n = cc (read, c.ok-2.ensures.value, c.in_ok-number.was {u = tt}) in
    is_other c.as_bytes.result.now c.args.token.now c.eq.result c.eq.ensures c.if-eq.false (c.as_bytes.ensures.value ∙ c.format.ensures.text ∙ ap decimal same ∙ sym t)
