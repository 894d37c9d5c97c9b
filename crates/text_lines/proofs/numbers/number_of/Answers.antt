use Rattle.std.proofs.Common.{◌∙◌, arith, rules, sym}
use Rattle.std.specs.Fmt.{signed_decimal}
use Rattle.text_lines.proofs.DigitLemmas.{more_behind}
use Rattle.text_lines.proofs.NumberLemmas.{signed_without}
use Rattle.text_lines.proofs.numbers.number_of.Goals as goal

pub returns-else-is_empty-clause-none : goal.returns-else-is_empty-clause-none
returns-else-is_empty-clause-none c = λ n long e.
    let s = c.in_ok-number in
    more_behind c.args.text.now (signed_decimal s.number) (signed_decimal n) s.rest.now (signed_without 32 (omega arith) s.number (search rules)) (signed_without 32 (omega arith) n long) s.ensures.found s.ensures.rest (sym c.is_empty.ensures ∙ c.if-is_empty.false) e
