use Rattle.std.proofs.Common.{subst}
use Rattle.tile_workers.specs.Watching.{AreShown, WatcherView}
use Rattle.tile_workers.proofs.watcher.Watcher.revisions.Goals as goal

pub returns-clause-shown : goal.returns-clause-shown
returns-clause-shown c = subst (λ (w : WatcherView). AreShown w.reader.surfaces w.revisions) c.self.view_is c.self.invariant.1
