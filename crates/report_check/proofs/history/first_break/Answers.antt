use Rattle.std.proofs.Common.{refl, arith, take}
use Rattle.report_check.specs.Replays.{entries_in}
use Rattle.report_check.proofs.HistoryLemmas.{breaks_after, breaks_here, in_order, item_there, taken_more}
use Rattle.report_check.proofs.history.first_break.Goals as goal

pub loop-place-init : goal.loop-place-init
loop-place-init c = c.in_ok-replay.ensures

pub may_take-requires : goal.may_take-requires
may_take-requires c = (take c.loop-place.place (entries_in c.args.items.now), c.loop-place.invariant)

pub take-requires : goal.take-requires
take-requires c =
    let H = take c.loop-place.place (entries_in c.args.items.now) in
    (c.args.session.now, (H, (c.loop-place.invariant, (c.may_take.ensures H c.loop-place.invariant).0 c.if-not-may_take.false)))

pub loop-place-preserved : goal.loop-place-preserved
loop-place-preserved c =
    let n = c.loop-place.place in
    let H = take n (entries_in c.args.items.now) in
    let step = (c.may_take.ensures H c.loop-place.invariant).0 c.if-not-may_take.false in
    rw (taken_more c.args.items.now n _ (item_there refl c.loop-place-test.true c.index-items-place.is)) (c.in_ok-take.ensures c.args.session.now H c.loop-place.invariant step)

pub is_complete-requires : goal.is_complete-requires
is_complete-requires c = (take c.loop-place.place (entries_in c.args.items.now), c.loop-place.invariant)

pub returns-then-not-may_take : goal.returns-then-not-may_take
returns-then-not-may_take c =
    let is = c.loop-place.invariant in
    breaks_here c.args.session.now c.args.items.now c.loop-place.place is.legal (item_there refl c.loop-place-test.true c.index-items-place.is) c.loop-place-test.true c.if-not-may_take.true (c.may_take.ensures _ is)

pub returns-then-is_complete : goal.returns-then-is_complete
returns-then-is_complete c =
    let is = c.loop-place.invariant in
    in_order c.args.session.now c.args.items.now c.loop-place.place is.legal (omega (arith, c.loop-place-test.false)) c.if-is_complete.true (c.is_complete.ensures _ is)

pub returns : goal.returns
returns c =
    let is = c.loop-place.invariant in
    breaks_after c.args.session.now c.args.items.now c.loop-place.place is.legal (omega (arith, c.loop-place-test.false, c.loop-place.auto.place-end)) c.if-is_complete.false (c.is_complete.ensures _ is)
