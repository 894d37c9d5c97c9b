use Rattle.std.proofs.Common.{◌≡◌, ◌∙◌, ℕ, ◌+◌, ap, sym, arith, List, ◌++◌, ◌∷◌, [], length}
use Rattle.std.specs.Prelude.{Some}
use Rattle.std.specs.Arc.{arc_value}
use Rattle.raster_model.specs.declared.script.Command.TheVariants.{Change}
use Rattle.raster_model.specs.Masks.{open_at}
use Rattle.tile_board.specs.declared.entry.Entry.{Entry}
use Rattle.tile_board.specs.declared.entry.Entry.TheVariants.{Revised}
use Rattle.tile_board.specs.Lacking.{AreLackingIn, is_listed, lacks_in}
use Rattle.tile_board.specs.Histories.{edits_of, next_command, now_of}
use Rattle.tile_board.proofs.HeldLemmas.{count_told, cursor_there}
use Rattle.tile_board.proofs.HistoryLemmas.{now_more}
use Rattle.tile_board.proofs.RevisionLemmas.{places_told, revision_is}
use Rattle.tile_board.specs.declared.answers.AdvanceFault.TheVariants.{Memory}
use Rattle.tile_board.proofs.LackingLemmas.{changed_are_met, lacking_emptied}
use Rattle.tile_board.proofs.ListLemmas.{err_is}
use Rattle.tile_board.proofs.StepLemmas.{cursor_small, revised_refused, state_claimed, state_revised}
use Rattle.tile_board.proofs.board.Board.revise.Goals as goal

pub index_mut-requires : goal.index_mut-requires
index_mut-requires c =
    let n : next_command (arc_value c.self.inside.session) c.self.inside.entries.items c.args.analyst ≡ Some (Change c.args.edit) = rw (← c.self.view_is) at c.requires in
    omega (arith, cursor_there c.self.invariant.past c.args.analyst (Change c.args.edit) n, c.self.inside.cursors.ok.0)

pub overflow_add-index_mut : goal.overflow_add-index_mut
overflow_add-index_mut c =
    let n : next_command (arc_value c.self.inside.session) c.self.inside.entries.items c.args.analyst ≡ Some (Change c.args.edit) = rw (← c.self.view_is) at c.requires in
    omega (arith, cursor_small c.self.invariant c.args.analyst (Change c.args.edit) c.index_mut.result.now n c.index_mut.ensures.value)

pub add_fresh-requires-clause-count : goal.add_fresh-requires-clause-count
add_fresh-requires-clause-count c = c.self.invariant.lacking.count

pub add_fresh-requires-clause-exist : goal.add_fresh-requires-clause-exist
add_fresh-requires-clause-exist c =
    let are = rw c.deref.ensures at c.in_ok-met.ensures in
    rw c.deref-2.ensures.value (λ i l. omega (arith, are.exist i l, c.self.invariant.board.kept.count))

pub tidy-requires-clause-count : goal.tidy-requires-clause-count
tidy-requires-clause-count c = ap (λ (ks : List ℕ). length ks) c.in_ok-add_fresh.ensures.claims ∙ c.self.invariant.lacking.count

pub tidy-requires-clause-exist : goal.tidy-requires-clause-exist
tidy-requires-clause-exist c =
    let are = rw c.deref.ensures at c.in_ok-met.ensures in
    rw c.deref-in_default.ensures.value (λ i l. omega (arith, are.exist i l, c.self.invariant.board.kept.count))

pub empty-requires : goal.empty-requires
empty-requires c =
    let changed = rw c.self.invariant.past.tiling at c.in-Ok.ensures.changed in
    rw c.deref-3.ensures.value (λ i l. omega (arith, changed.exist i l, c.self.invariant.board.kept.count))

pub restart-requires : goal.restart-requires
restart-requires c =
    let changed = rw c.self.invariant.past.tiling at c.in-Ok.ensures.changed in
    let count = ap (λ (ks : List ℕ). length ks) c.in_ok-add_fresh.ensures.claims ∙ c.self.invariant.lacking.count ∙ c.self.invariant.board.kept.count in
    rw c.deref-4.ensures.value (λ i l. omega (arith, changed.exist i l, count))

pub tidy-requires-2-clause-count : goal.tidy-requires-2-clause-count
tidy-requires-2-clause-count c =
    let emptied = rw c.deref-3.ensures.value at c.empty.ensures in
    c.restart.ensures.count ∙ ap (λ (ks : List ℕ). length ks) c.in_ok-add_fresh.ensures.claims ∙ c.self.invariant.lacking.count ∙ sym emptied.count

pub tidy-requires-2-clause-exist : goal.tidy-requires-2-clause-exist
tidy-requires-2-clause-exist c =
    let are = rw c.deref.ensures at c.in_ok-met.ensures in
    let emptied = rw c.deref-3.ensures.value at c.empty.ensures in
    rw c.deref-5.ensures.value (λ i l. omega (arith, are.exist i l, c.self.invariant.board.kept.count, emptied.count))

-- for want of memory: the keys that were added are taken out again
pub invariant_of-self-in_err-add_fresh : goal.invariant_of-self-in_err-add_fresh
invariant_of-self-in_err-add_fresh c =
    let is = c.self.invariant.lacking in
    rw c.in_ok-reserve.ensures.items (state_claimed c.self.invariant c.add_fresh.new.self (record { count = ap (λ (ks : List ℕ). length ks) c.in_err-add_fresh.ensures.claims ∙ is.count; keys = c.in_err-add_fresh.ensures.refused is.keys }))

pub invariant_of-self-in_default : goal.invariant_of-self-in_default
invariant_of-self-in_default c =
    let is = c.self.invariant.lacking in
    let met = c.in_ok-met.met.items in
    let added = rw c.deref-2.ensures.value at c.in_ok-add_fresh.ensures.added in
    let tidied = rw c.deref-in_default.ensures.value at c.tidy.ensures.keys in
    let count = ap (λ (ks : List ℕ). length ks) (c.tidy.ensures.claims ∙ c.in_ok-add_fresh.ensures.claims) ∙ is.count in
    rw (c.in_ok-reserve.ensures.items, c.in_default.ensures.refused) (state_claimed c.self.invariant c.tidy.new.self (record { count = count; keys = tidied (is_listed met (length met)) (λ t h. h) (added (lacks_in c.self.inside.kept) is.keys) }))

pub invariant_of-self-2 : goal.invariant_of-self-2
invariant_of-self-2 c =
    let i = c.self.inside in
    let is = c.self.invariant.lacking in
    let n : next_command (arc_value i.session) i.entries.items c.args.analyst ≡ Some (Change c.args.edit) = rw (← c.self.view_is) at c.requires in
    let pushed = c.in-Ok.ensures.pushed in
    let next = c.in-Ok.ensures.next (open_at (arc_value i.session).first_mask) (edits_of i.entries.items) c.self.invariant.past.revisions in
    let changed = rw c.self.invariant.past.tiling at c.in-Ok.ensures.changed in
    let emptied = rw c.deref-3.ensures.value at c.empty.ensures in
    let entries = c.push_within.ensures.items ∙ ap (λ (es : List Entry). es ++ (Revised c.args.analyst c.args.edit ∷ [])) c.in_ok-reserve.ensures.items in
    let met = c.in_ok-met.met.items in
    let tiles = c.in-Ok.tiles.items in
    let are = rw c.deref.ensures at c.in_ok-met.ensures in
    let added = rw c.deref-2.ensures.value at c.in_ok-add_fresh.ensures.added in
    let restarted = rw c.deref-4.ensures.value at c.restart.ensures.keys in
    let tidied = rw c.deref-5.ensures.value at c.tidy-2.ensures.keys in
    let mask = rw c.self.invariant.past.tiling at pushed.mask in
    let fresh = changed_are_met (arc_value i.session).scene.tiling (open_at i.revisions.mask) c.push.new.self.mask c.args.edit tiles met mask changed are in
    let count = ap (λ (ks : List ℕ). length ks) c.tidy-2.ensures.claims ∙ c.restart.ensures.count ∙ ap (λ (ks : List ℕ). length ks) c.in_ok-add_fresh.ensures.claims ∙ is.count ∙ sym emptied.count in
    let keys = lacking_emptied i.kept c.empty.new.self tiles (is_listed met (length met)) c.restart.new.self.claims c.restart.new.self.keys emptied (restarted (lacks_in i.kept) (is_listed met (length met)) fresh (added (lacks_in i.kept) is.keys)) in
    let lacking : AreLackingIn c.empty.new.self c.tidy-2.new.self = record { count = count; keys = tidied (is_listed met (length met)) (λ t h. h) keys } in
    state_revised c.self.invariant c.args.analyst c.args.edit c.index_mut.result.now c.push_within.new.items.items c.empty.new.self c.push.new.self c.tidy-2.new.self entries n c.index_mut.ensures.value pushed.tiling next lacking emptied.count (places_told c.self.invariant c.args.analyst c.args.edit c.push.new.self pushed.tiling next tiles c.empty.new.self changed emptied)

pub returns-clause-advanced : goal.returns-clause-advanced
returns-clause-advanced c =
    let i = c.self.inside in
    let n : next_command (arc_value i.session) i.entries.items c.args.analyst ≡ Some (Change c.args.edit) = rw (← c.self.view_is) at c.requires in
    let pushed = c.in-Ok.ensures.pushed in
    let next = c.in-Ok.ensures.next (open_at (arc_value i.session).first_mask) (edits_of i.entries.items) c.self.invariant.past.revisions in
    let changed = rw c.self.invariant.past.tiling at c.in-Ok.ensures.changed in
    let emptied = rw c.deref-3.ensures.value at c.empty.ensures in
    let entries = c.push_within.ensures.items ∙ ap (λ (es : List Entry). es ++ (Revised c.args.analyst c.args.edit ∷ [])) c.in_ok-reserve.ensures.items in
    let is = revision_is c.self.invariant c.args.analyst c.args.edit c.push.new.self pushed.tiling next c.in-Ok.tiles.items c.empty.new.self changed emptied c.push_within.new.items.items entries n in
    let count = c.count.ensures ∙ pushed.count ∙ ap (λ (k : ℕ). k + 1) (count_told c.self.invariant.past) ∙ sym (ap now_of entries ∙ now_more i.entries.items c.args.analyst c.args.edit) in
    rw (← c.self.view_is) (count, c.args.edit, is)

pub returns-in_err-reserve-clause-refused : goal.returns-in_err-reserve-clause-refused
returns-in_err-reserve-clause-refused c =
    err_is c.from_residual.result Memory _ c.from_residual.ensures.1 (revised_refused c.args.self.now c.args.analyst c.args.edit Memory c.requires)

pub returns-in_err-met-clause-refused : goal.returns-in_err-met-clause-refused
returns-in_err-met-clause-refused c =
    err_is c.from_residual-in_err-met.result Memory _ c.from_residual-in_err-met.ensures.1 (revised_refused c.args.self.now c.args.analyst c.args.edit Memory c.requires)

pub returns-in_err-add_fresh-clause-refused : goal.returns-in_err-add_fresh-clause-refused
returns-in_err-add_fresh-clause-refused c =
    err_is c.from_residual-in_err-add_fresh.result Memory _ c.from_residual-in_err-add_fresh.ensures.1 (revised_refused c.args.self.now c.args.analyst c.args.edit Memory c.requires)

pub returns-in_default-clause-refused : goal.returns-in_default-clause-refused
returns-in_default-clause-refused c = revised_refused c.args.self.now c.args.analyst c.args.edit Memory c.requires
