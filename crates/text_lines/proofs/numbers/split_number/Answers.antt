use Rattle.std.proofs.Common.{rules}
use Rattle.text_lines.proofs.DigitLemmas.{no_negative, not_in_range, too_negative, too_positive}
use Rattle.text_lines.proofs.numbers.split_number.Goals as goal

pub returns-in_err-size-in-Some-clause-none : goal.returns-in_err-size-in-Some-clause-none
returns-in_err-size-in-Some-clause-none c =
    rw c.from_residual.ensures (no_negative c.args.text.now c.in-Some.digits.now c.in-Some.ensures.found c.in_err-size-in-Some.ensures.none)

pub returns-in_err-negated-in-Some-clause-none : goal.returns-in_err-negated-in-Some-clause-none
returns-in_err-negated-in-Some-clause-none c =
    let size = c.in_ok-size-in-Some in
    rw c.from_residual-in_err-negated-in-Some.ensures
    (too_negative c.args.text.now c.in-Some.digits.now size.rest.now size.size c.in-Some.ensures.found (search rules) size.ensures.found size.ensures.rest c.in_err-negated-in-Some.ensures.none)

pub returns-in_err-ok-in-None-clause-none : goal.returns-in_err-ok-in-None-clause-none
returns-in_err-ok-in-None-clause-none c =
    let size = c.in_ok-size-in-None in
    rw c.from_residual-in_err-ok-in-None.ensures
    (too_positive c.args.text.now size.rest.now size.size c.in-None.ensures.none (search rules) size.ensures.found size.ensures.rest
    (not_in_range c.try_from.result _ _ c.in_err-ok-in-None.ensures.value c.try_from.ensures))
