use Rattle.std.proofs.Common.{◌∙◌, ap, arith, get_or, rules, FitsSigned, w64}
use Rattle.std.specs.Prelude.{ℤ, pos}
use Rattle.std.proofs.lemmas.Int.{to_z-of_z}
use Rattle.dual_grid.specs.Grids.{amount_of}
use Rattle.dual_grid.proofs.ReachedLemmas.{positive_more, positive_none}
use Rattle.dual_grid.proofs.TogetherLemmas.{positive_beyond}
use Rattle.dual_grid.proofs.reaching.sums_within.Goals as goal

pub loop-excess-init : goal.loop-excess-init
loop-excess-init c = positive_none c.args.excesses.now c.args.limit _ c.from-left.ensures

pub loop-excess-preserved : goal.loop-excess-preserved
loop-excess-preserved c =
    let x : ℤ = get_or c.args.excesses.now c.loop-excess.excess-index (pos 0) in
    let fits : FitsSigned w64 x = search rules in
    positive_more c.args.excesses.now c.loop-excess.excess-index c.args.limit c.loop-excess.left c.amount-part.result (c.amount-part.ensures ∙ ap amount_of (to_z-of_z w64 x fits)) (omega (arith, c.if-part-left.false)) c.loop-excess.invariant

pub returns-then-part-left-clause-told : goal.returns-then-part-left-clause-told
returns-then-part-left-clause-told c =
    λ few.
    let x : ℤ = get_or c.args.excesses.now c.loop-excess.excess-index (pos 0) in
    let fits : FitsSigned w64 x = search rules in
    absurd (positive_beyond c.args.excesses.now c.loop-excess.excess-index c.args.limit c.loop-excess.left c.amount-part.result (c.amount-part.ensures ∙ ap amount_of (to_z-of_z w64 x fits)) c.if-part-left.true c.loop-excess.invariant c.loop-excess-test.true few)
