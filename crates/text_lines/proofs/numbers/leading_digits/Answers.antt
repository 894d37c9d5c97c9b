use Rattle.std.proofs.Common.{arith}
use Rattle.text_lines.proofs.DigitLemmas.{digits_grow, digits_small, value_grows}
use Rattle.text_lines.proofs.numbers.leading_digits.Goals as goal

pub overflow_mul-number : goal.overflow_mul-number
overflow_mul-number c =
    let small = digits_small c.args.text.now c.loop-count.count c.loop-count.invariant.digits (omega (arith, c.loop-count.invariant.few, c.if-count-eq-MOST_DIGITS.false)) in
    omega (arith, small, c.loop-count.invariant.value)

pub overflow_add-number : goal.overflow_add-number
overflow_add-number c =
    let small = digits_small c.args.text.now c.loop-count.count c.loop-count.invariant.digits (omega (arith, c.loop-count.invariant.few, c.if-count-eq-MOST_DIGITS.false)) in
    omega (arith, small, c.loop-count.invariant.value, c.from.ensures)

pub loop-count-preserved : goal.loop-count-preserved
loop-count-preserved c = record {
  few = omega (arith, c.loop-count.invariant.few, c.if-count-eq-MOST_DIGITS.false);
  digits = digits_grow c.args.text.now c.loop-count.count c.loop-count.invariant.digits c.loop-count-test.true c.if-not-is_ascii_digit.ensures.bound;
  value = value_grows c.args.text.now c.loop-count.count c.loop-count.number c.from.result c.loop-count-test.true c.if-not-is_ascii_digit.ensures.cases c.from.ensures c.loop-count.invariant.value;
}
