use Rattle.std.proofs.Common.{◌+◌, sym, subst, List, ℤ, to_z, of_z, w64}
use Rattle.flow_network.specs.Views.{shape_of, state_of}
use Rattle.offset_network.specs.Networks.{AreLowered}
use Rattle.offset_network.proofs.AnswerLemmas.{by_small, lowered_is, lowered_more}
use Rattle.offset_network.proofs.answer.lowered.Goals as goal

pub overflow_sub-height : goal.overflow_sub-height
overflow_sub-height c =
    (lowered_is c.height.result _ (to_z w64 (of_z w64 c.args.by)) (shape_of c.args.net.now).nodes c.height.ensures.value c.height.ensures.low c.height.ensures.high c.requires.few (by_small c.args.by c.requires.small)).0

pub loop-region-preserved : goal.loop-region-preserved
loop-region-preserved c =
    let f = state_of c.args.net.now in
    let start = c.args.start.now in
    let is = lowered_is c.height.result _ (to_z w64 (of_z w64 c.args.by)) (shape_of c.args.net.now).nodes c.height.ensures.value c.height.ensures.low c.height.ensures.high c.requires.few (by_small c.args.by c.requires.small) in
    subst (AreLowered start f (to_z w64 (of_z w64 c.args.by)) (c.loop-region.region + 1)) (sym {A = List ℤ} c.in_ok-push.ensures.items)
    (lowered_more start f (to_z w64 (of_z w64 c.args.by)) c.loop-region.region c.loop-region.offsets.items _ is.1 c.loop-region.invariant)
