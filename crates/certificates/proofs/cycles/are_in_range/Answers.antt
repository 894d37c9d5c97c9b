use Rattle.std.proofs.Common.{◌∙◌, ap, arith, w32, FitsSigned, pos, rules}
use Rattle.std.specs.Prelude.{slice_index_or, unsigned_abs}
use Rattle.std.proofs.lemmas.Int.{to_z-of_z}
use Rattle.certificates.proofs.RangeLemmas.{is_false, one_in}
use Rattle.certificates.proofs.cycles.are_in_range.Goals as goal

pub loop-place-init : goal.loop-place-init
loop-place-init c = λ e v l. absurd (omega (arith, l))

pub loop-place-preserved : goal.loop-place-preserved
loop-place-preserved c =
    let z = slice_index_or c.args.cycles.now c.loop-place.place (pos 0) in
    let fits : FitsSigned w32 z = search rules in
    one_in c.args.cycles.now c.loop-place.place c.loop-place.outside c.unsigned_abs.result c.loop-place.invariant (c.unsigned_abs.ensures.value ∙ ap unsigned_abs (to_z-of_z w32 z fits))

pub returns : goal.returns
returns c = λ t v l. c.loop-place.invariant (is_false c.loop-place.outside t) v (omega (arith, l, c.loop-place-test.false))
