use Rattle.std.proofs.Common.{◌∙◌, refl}
use Rattle.text_lines.proofs.NumberLemmas.{no_row, row_pushed}
use Rattle.text_lines.proofs.numbers.push_row.Goals as goal

pub returns-then-branch : goal.returns-then-branch
returns-then-branch c =
    row_pushed c.args.numbers.now.items c.push_first.new.numbers.items c.args.text.now c.args.count c.len-before.result c.len.result _ c.requires (c.len-before.ensures ∙ c.args.numbers.now.ok.0) (c.len.ensures ∙ c.push_first.new.numbers.ok.0) refl
    (rw c.if-branch.true at c.in_ok-push_first.ensures)

pub returns-else-branch : goal.returns-else-branch
returns-else-branch c = rw c.if-branch.false (no_row c.args.text.now c.args.count c.requires (rw c.if-branch.false at c.in_ok-push_first.ensures))
