use Rattle.text_lines.proofs.DigitLemmas.{count_found, no_field, not_plain}
use Rattle.text_lines.proofs.numbers.split_count.Goals as goal
use Rattle.text_lines.proofs.numbers.split_count.Goals.{else-is_plain-via-then-is_plain+else-begins_field, else-is_plain-via-else-is_plain}

pub returns-then-begins_field-clause-found : goal.returns-then-begins_field-clause-found
returns-then-begins_field-clause-found c =
    let plain = rw c.if-is_plain.true at c.is_plain.ensures in
    count_found c.args.text.now c.split_at.result.0.now c.split_at.result.1.now c.leading_digits-count.result.1 c.leading_digits-count.result.0
    c.split_at.ensures.front c.split_at.ensures.back c.leading_digits-count.ensures.few c.leading_digits-count.ensures.digits c.leading_digits-count.ensures.value plain.0 plain.1

pub returns-else-is_plain-clause-none : goal.returns-else-is_plain-clause-none
returns-else-is_plain-clause-none c =
    let read = c.leading_digits-count.ensures in
    elim c.else-is_plain.branch [
      | else-is_plain-via-then-is_plain+else-begins_field w ↦ no_field c.args.text.now c.leading_digits-count.result.1 read.within read.few read.digits read.stops
          c.split_at.result.1.now c.split_at.ensures.back w.if-begins_field.ensures
      | else-is_plain-via-else-is_plain w ↦ not_plain c.args.text.now c.leading_digits-count.result.1 read.within read.few read.digits read.stops
          c.split_at.result.0.now c.split_at.ensures.front w.if-is_plain.ensures
    ]
