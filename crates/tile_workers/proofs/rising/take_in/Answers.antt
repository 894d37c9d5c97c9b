use Rattle.std.proofs.Common.{◌≡◌, inl, inr, refl, subst, sym}
use Rattle.std.specs.Prelude.{Ok, Err}
use Rattle.tile_workers.specs.Watching.{Rises}
use Rattle.std.specs.List.{insert}
use Rattle.tile_workers.proofs.RisingLemmas.{found, one_more, rises_insert, keeps_at}
use Rattle.tile_workers.proofs.rising.take_in.Goals as goal

inserted : (c : goal.After-insert-inserted) → c.insert-inserted.new.self.items ≡ insert c.args.kept.now.items c.in-Err.place c.args.revision
inserted c = rw (c.insert-inserted.ensures.succeeds c.requires.room) at c.insert-inserted.ensures.items

pub returns-in-Err-clause-rises : goal.returns-in-Err-clause-rises
returns-in-Err-clause-rises c =
    let place = found c.args.kept.now.items c.deref.result.now c.args.revision c.binary_search.result (Err c.in-Err.place) c.in-Err.is c.deref.ensures.value c.requires.rises c.binary_search.ensures.position in
    subst Rises (sym (inserted c)) (rises_insert c.args.kept.now.items c.in-Err.place c.args.revision c.requires.rises place.0 place.1 place.2)

pub returns-in-Err-clause-kept : goal.returns-in-Err-clause-kept
returns-in-Err-clause-kept c = inr (rw (inserted c) (one_more c.args.kept.now.items c.in-Err.place c.args.revision))

pub returns-in_default-clause-kept : goal.returns-in_default-clause-kept
returns-in_default-clause-kept c =
    let there = found c.args.kept.now.items c.deref.result.now c.args.revision c.binary_search.result (Ok c.in_default.field-0) c.in_default.is c.deref.ensures.value c.requires.rises c.binary_search.ensures.position in
    inl (keeps_at c.args.kept.now.items c.in_default.field-0 c.args.revision there.0 there.1, refl)
