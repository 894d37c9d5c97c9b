use Rattle.std.proofs.Common.{◌+◌, sym, subst, List, ℤ}
use Rattle.offset_network.specs.Networks.{AreSums}
use Rattle.offset_network.proofs.AnswerLemmas.{sums_more, three_fit}
use Rattle.offset_network.proofs.answer.sums_of_three.Goals as goal

pub overflow_add-parts-in-loop-place : goal.overflow_add-parts-in-loop-place
overflow_add-parts-in-loop-place c =
    let j = c.loop-place.place in
    (three_fit c.args.parts.now j c.requires.small).0

pub loop-place-preserved : goal.loop-place-preserved
loop-place-preserved c =
    let j = c.loop-place.place in
    subst (AreSums c.args.parts.now (j + 1)) (sym {A = List ℤ} c.in_ok-push.ensures.items)
    (sums_more c.args.parts.now j c.loop-place.sums.items _ (three_fit c.args.parts.now j c.requires.small).1 c.loop-place.invariant)
