use Rattle.std.proofs.Common.{◌∙◌, length, ap, sym}
use Rattle.std.specs.Prelude.{codes}
use Rattle.std.proofs.lemmas.List.{append_cancel_left}
use Rattle.text_lines.specs.Numbers.{numbers_text}
use Rattle.text_lines.proofs.NumberLemmas.{numbers_unique}
use Rattle.whole_text.proofs.parse.faces_of.Goals as goal

pub returns-else-len-across : goal.returns-else-len-across
returns-else-len-across c = λ numbers a e.
    let found = c.in-Some.faces in
    let p = rw c.in-Some.is at c.in_ok-faces.ensures in
    let same = numbers_unique numbers found.items a.0 p.0 (append_cancel_left (codes "faces") (numbers_text numbers) (numbers_text found.items) (sym e ∙ p.1)) in
    c.if-len-across.false (c.len.ensures ∙ found.ok.0 ∙ ap (λ l. length l) (sym same) ∙ a.1)
