use Rattle.std.proofs.Common.{◌∙◌, arith, decimal, rules, sym}
use Rattle.text_lines.proofs.DigitLemmas.{count_read, more_behind, no_whole_count}
use Rattle.text_lines.proofs.NumberLemmas.{decimal_without}
use Rattle.text_lines.proofs.numbers.count_of.Goals as goal

pub returns-in_err-count : goal.returns-in_err-count
returns-in_err-count c = rw c.from_residual.ensures (no_whole_count c.args.text.now c.in_err-count.ensures.none)

pub returns-then-is_empty : goal.returns-then-is_empty
returns-then-is_empty c =
    let split = c.in_ok-count in
    count_read c.args.text.now split.rest.now split.count c.try_from.result c.ok.result c.ok.ensures.value c.try_from.ensures split.ensures.found (sym c.is_empty.ensures ∙ c.if-is_empty.true) (search rules)

pub returns-else-is_empty : goal.returns-else-is_empty
returns-else-is_empty c =
    let s = c.in_ok-count in
    λ n small e. more_behind c.args.text.now (decimal s.count) (decimal n) s.rest.now (decimal_without 32 (omega arith) s.count (search rules)) (decimal_without 32 (omega arith) n (omega (arith, small))) s.ensures.found s.ensures.rest (sym c.is_empty.ensures ∙ c.if-is_empty.false) e
