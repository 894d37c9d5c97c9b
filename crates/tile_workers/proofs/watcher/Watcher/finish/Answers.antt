use Rattle.std.proofs.Common.{◌≡◌, rules, subst}
use Rattle.reader_desk.specs.Fronts.{ShelfView}
use Rattle.tile_workers.specs.Watching.{AreShown, KeepsToo, Rises}
use Rattle.tile_workers.proofs.WatchLemmas.{shown_later, shown_too}
use Rattle.tile_workers.proofs.watcher.Watcher.finish.Goals as goal

pub invariant_of-self : goal.invariant_of-self
invariant_of-self c =
    let was = c.self.inside in
    let now = c.match-revision.self-inside in
    let same : was.reader ≡ now.reader = search rules in
    let shown : AreShown now.reader.surfaces was.revisions.items = subst (λ (r : ShelfView). AreShown r.surfaces was.revisions.items) same c.self.invariant.1 in
    let rises : Rises now.revisions.items = search rules in
    let keeps : KeepsToo was.revisions.items now.revisions.items c.revision.result = search rules in
    (rises, shown_too c.args.note c.learn.new.self was.revisions.items now.revisions.items c.revision.result c.revision.ensures c.learn.ensures.told (shown_later now.reader c.learn.new.self was.revisions.items c.learn.ensures.own shown) keeps)
