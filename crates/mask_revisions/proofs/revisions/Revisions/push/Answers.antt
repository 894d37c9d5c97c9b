use Rattle.std.proofs.Common.{◌∙◌}
use Rattle.std.proofs.lemmas.List.{with_items_is}
use Rattle.mask_revisions.proofs.Histories.{now_changed, pushed_is, next_are}
use Rattle.mask_revisions.proofs.revisions.Revisions.push.Goals as goal

pub returns-clause-pushed : goal.returns-clause-pushed
returns-clause-pushed c =
    let i = c.self.inside in
    let held = with_items_is i.stamps c.restamp.new.stamps (c.restamp.auto.stamps ∙ c.deref_mut.ensures.len) in
    let stamped = rw (c.deref_mut.ensures.value, c.deref.ensures.value) at c.restamp.ensures in
    rw (← c.self.view_is, held) (pushed_is i.mask c.set_tiles.new.mask i.tiling i.stamps.items c.restamp.new.stamps c.set_tiles.new.tiles.items i.count c.args.edit c.self.invariant.0 c.self.invariant.1 c.set_tiles.ensures.mask c.set_tiles.ensures.changed stamped)

pub returns-clause-next : goal.returns-clause-next
returns-clause-next c first edits is = next_are first edits c.args.edit c.args.self.now _ is (returns-clause-pushed c)

pub returns-clause-changed : goal.returns-clause-changed
returns-clause-changed c =
    let i = c.self.inside in
    rw (← c.self.view_is) (now_changed i.mask c.set_tiles.new.mask i.tiling c.set_tiles.new.tiles.items c.args.edit c.self.invariant.0 c.self.invariant.1 c.set_tiles.ensures.mask c.set_tiles.ensures.changed)
