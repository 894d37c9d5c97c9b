use Rattle.std.proofs.Common.{◌≤◌, arith, take, length}
use Rattle.std.proofs.lemmas.List.{length-map}
use Rattle.tile_board.proofs.ListLemmas.{get_below}
use Rattle.report_text.specs.Contents.{report_told, told_item}
use Rattle.report_check.specs.Replays.{entries_in}
use Rattle.report_check.proofs.HistoryLemmas.{entry_at, item_there, taken_more}
use Rattle.report_check.proofs.ReportLemmas.{first_unfit, fits_there, more_certified}
use Rattle.report_check.proofs.surfaces.first_fault.Goals as goal

pub fault_after-requires-clause-fits : goal.fault_after-requires-clause-fits
fault_after-requires-clause-fits c = fits_there c.args.report.now c.requires.head c.loop-item.item-index (item_there c.deref-item-items.ensures.value c.loop-item-test.true c.item-item.is)

pub returns-in-Some : goal.returns-in-Some
returns-in-Some c =
    let v = c.args.report.now in
    let there = item_there c.deref-item-items.ensures.value c.loop-item-test.true c.item-item.is in
    let step = c.requires.legal _ _ (entry_at v.items.items _ _ there) in
    first_unfit v c.loop-item.item-index c.loop-item.invariant.replay there step c.loop-item.invariant.before c.in-Some.verdict (rw (c.in-Some.is, c.mask.ensures) at c.in_ok-verdict.ensures)

pub take-requires : goal.take-requires
take-requires c =
    let items = c.args.report.now.items.items in
    let there = item_there c.deref-item-items.ensures.value c.loop-item-test.true c.item-item.is in
    (c.args.session.now, (take c.loop-item.item-index (entries_in items), (c.loop-item.invariant.replay, c.requires.legal _ _ (entry_at items _ _ there))))

pub loop-item-preserved : goal.loop-item-preserved
loop-item-preserved c =
    let v = c.args.report.now in
    let there = item_there c.deref-item-items.ensures.value c.loop-item-test.true c.item-item.is in
    let step = c.requires.legal _ _ (entry_at v.items.items _ _ there) in
    record {
      replay = rw (taken_more v.items.items c.loop-item.item-index c.item-item.result there) (c.in_ok-take.ensures c.args.session.now _ c.loop-item.invariant.replay step);
      before = more_certified v c.loop-item.item-index c.loop-item.invariant.replay there step c.loop-item.invariant.before (rw (c.in_default.is, c.mask.ensures) at c.in_ok-verdict.ensures);
    }

pub returns : goal.returns
returns c k i at =
    let items = c.args.report.now.items.items in
    let all : length items ≤ c.loop-item.item-index = rw c.deref-item-items.ensures.value at c.loop-item-test.false in
    let within = get_below (report_told c.args.report.now).items k i at in
    c.loop-item.invariant.before k i (omega (arith, all, within, length-map items told_item)) at
