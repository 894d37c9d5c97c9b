use Rattle.std.proofs.Common.{◌++◌, ◌∙◌, ap}
use Rattle.text_lines.specs.Numbers.{numbers_text}
use Rattle.text_lines.proofs.ParseLemmas.{not_stripped, stripped}
use Rattle.text_parts.proofs.ParseLemmas.{numbers_found}
use Rattle.text_parts.proofs.read.numbers_after.Goals as goal

pub returns-in_default : goal.returns-in_default
returns-in_default c = λ numbers longs e. not_stripped c.args.line.now c.args.front.now c.in_default.ensures.cases (numbers_text numbers) e

pub returns-then-branch : goal.returns-then-branch
returns-then-branch c =
    let h = numbers_found c.in_ok-push_numbers.field-0 c.new-numbers.result.items c.push_numbers.new.numbers.items c.in-Some.fields.now c.if-branch.true c.new-numbers.ensures.items c.in_ok-push_numbers.ensures in
    (h.0, stripped c.args.line.now c.args.front.now c.in-Some.fields c.in-Some.ensures.cases ∙ ap (λ l. c.args.front.now ++ l) h.1)
