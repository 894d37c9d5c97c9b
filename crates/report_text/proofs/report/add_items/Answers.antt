use Rattle.std.proofs.Common.{ℕ, ◌+◌, ap}
use Rattle.report_text.proofs.ItemLemmas.{all_added, first_at, next_added, none_added}
use Rattle.report_text.proofs.report.add_items.Goals as goal

pub loop-entry-init : goal.loop-entry-init
loop-entry-init g c = record { ready = c.requires.ready; items = none_added _ _ _ _ _ }

pub loop-entry-preserved : goal.loop-entry-preserved
loop-entry-preserved g c = record {
  ready = c.add_item.ensures.ready;
  items = next_added c.loop-entry.invariant.items _ _ _ c.loop-entry-test.true (first_at c.args.snapshots.now c.loop-entry.place c.get.result c.get.ensures.lookup) (ap (λ (n : ℕ). c.loop-entry.place + n) c.surfaces_after-place.ensures) c.add_item.ensures.text c.add_item.ensures.small;
}

pub returns-clause-text : goal.returns-clause-text
returns-clause-text g c = rw (← all_added c.loop-entry.invariant.items c.loop-entry-test.false) c.loop-entry.invariant.items.added

pub returns-clause-small : goal.returns-clause-small
returns-clause-small g c = rw (← all_added c.loop-entry.invariant.items c.loop-entry-test.false) c.loop-entry.invariant.items.each
