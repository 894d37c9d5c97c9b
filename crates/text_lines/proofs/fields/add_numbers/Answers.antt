use Rattle.std.proofs.Common.{get_or, pos, rules}
use Rattle.std.specs.Prelude.{FitsSigned}
use Rattle.std.specs.Int.{w64}
use Rattle.std.proofs.lemmas.Int.{to_z-of_z}
use Rattle.std.proofs.lemmas.List.{take_all}
use Rattle.text_lines.specs.Numbers.{number_text}
use Rattle.text_lines.proofs.AddLemmas.{adds_next, adds_nothing}
use Rattle.text_lines.proofs.fields.add_numbers.Goals as goal

pub loop-number-init : goal.loop-number-init
loop-number-init g c = adds_nothing _

pub loop-number-preserved : goal.loop-number-preserved
loop-number-preserved g c =
    let x = get_or c.args.numbers.now c.loop-number.number-index (pos 0) in
    let fits : FitsSigned w64 x = search rules in
    adds_next number_text c.args.numbers.now c.loop-number.number-index (pos 0) c.loop-number-test.true c.loop-number.invariant (rw (to_z-of_z w64 x fits) at c.add_signed_field.ensures)

pub returns-clause-added : goal.returns-clause-added
returns-clause-added g c = rw (take_all c.loop-number.number-index c.args.numbers.now c.loop-number-test.false) at c.loop-number.invariant
