use Rattle.std.proofs.Common.{arith}
use Rattle.std.specs.Prelude.{pos, ◌-ℤ◌, int_div}
use Rattle.std.proofs.lemmas.Int.{ints}
use Rattle.surface_integration.proofs.RiseLemmas.{difference_fits, quotient_at, quotient_small, rise_fits, rise_is, rise_bounded}
use Rattle.surface_integration.proofs.rises.rise.Goals as goal

pub overflow_sub-result-2 : goal.overflow_sub-result-2
overflow_sub-result-2 c = difference_fits c.args.from c.args.to c.from-2.result c.from.result c.args.gradient (omega (arith, ints)) (omega (arith, ints)) c.requires.near (omega arith) (omega arith)

pub overflow_sub-result-3 : goal.overflow_sub-result-3
overflow_sub-result-3 c =
    let t = quotient_at c.args.from c.args.to c.from-2.result c.from.result c.args.gradient (omega (arith, ints)) (omega (arith, ints)) c.requires.near (omega arith) (omega arith) in
    rise_fits c.args.correction _ _ t (quotient_small (pos c.args.to -ℤ pos c.args.from -ℤ c.args.gradient) c.requires.near) c.requires.small

pub returns-clause-value : goal.returns-clause-value
returns-clause-value c =
    let t = quotient_at c.args.from c.args.to c.from-2.result c.from.result c.args.gradient (omega (arith, ints)) (omega (arith, ints)) c.requires.near (omega arith) (omega arith) in
    rise_is c.args.correction _ _ t (quotient_small (pos c.args.to -ℤ pos c.args.from -ℤ c.args.gradient) c.requires.near) c.requires.small

pub returns-clause-small : goal.returns-clause-small
returns-clause-small c = rw (returns-clause-value c) (rise_bounded c.args.correction (int_div (pos c.args.to -ℤ pos c.args.from -ℤ c.args.gradient) (pos 65536)) (quotient_small (pos c.args.to -ℤ pos c.args.from -ℤ c.args.gradient) c.requires.near))
