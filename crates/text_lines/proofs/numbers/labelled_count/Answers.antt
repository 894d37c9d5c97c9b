use Rattle.std.proofs.Common.{◌≡◌, ◌∙◌, ap, ◌++◌, List, ℕ, arith, decimal, inl, inr, sym}
use Rattle.std.proofs.lemmas.List.{append_cancel_left}
use Rattle.text_lines.proofs.NumberLemmas.{same_count}
use Rattle.text_lines.proofs.numbers.labelled_count.Goals as goal

pub returns-in_err-count-clause-none : goal.returns-in_err-count-clause-none
returns-in_err-count-clause-none c =
    rw c.from_residual-in_err-count.ensures (λ n low high e. c.in_err-count.ensures n (omega arith) (append_cancel_left c.args.label.now c.in_ok-after_word.field-0.now (decimal n) (sym c.in_ok-after_word.ensures ∙ e)))

pub returns-else-least-count-clause-none : goal.returns-else-least-count-clause-none
returns-else-least-count-clause-none c = λ n low high e.
    let line = c.in_ok-after_word.ensures ∙ ap (λ (l : List ℕ). c.args.label.now ++ l) c.in_ok-count.ensures.1 in
    let same : c.in_ok-count.count ≡ n = same_count c.args.line.now c.args.label.now c.in_ok-count.count n (omega arith) (omega arith) line e in
    elim c.else-least-count.either [ inl h ↦ omega arith | inr h ↦ omega arith ]
