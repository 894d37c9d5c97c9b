use Rattle.std.proofs.Common.{◌∙◌, arith, to_z, of_z, w16, w32, SFits, rules}
use Rattle.std.proofs.lemmas.Int.{to_z-of_z}
use Rattle.wrapped_gradient.proofs.DifferenceLemmas.{differences_next}
use Rattle.wrapped_gradient.proofs.gradients.set_differences.Goals as goal

pub loop-place-preserved : goal.loop-place-preserved
loop-place-preserved c =
    let fits : SFits w16 c.difference.result = search rules in
    differences_next (to_z w32 (of_z w32 c.args.slope)) c.args.from.now c.args.to.now c.args.start c.loop-place.place (to_z w16 (of_z w16 c.difference.result)) c.args.list.now c.loop-place.list
    (omega (arith, c.loop-place.invariant.count)) (to_z-of_z w16 c.difference.result fits ∙ c.difference.ensures) c.loop-place.invariant
