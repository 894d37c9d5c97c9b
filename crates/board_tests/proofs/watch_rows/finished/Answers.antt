use Rattle.std.proofs.Common.{◌≡◌, ◌≤◌, Some}
use Rattle.std.proofs.lemmas.List.Elements.{All-pop}
use Rattle.tile_workers.specs.Watching.{WatcherView}
use Rattle.board_tests.proofs.watch_rows.finished.Goals as goal

pub loop-watcher-preserved : goal.loop-watcher-preserved
loop-watcher-preserved c = (All-pop (λ (w : WatcherView). (1 ≤ w.room) × (w.reader.shelf ≡ c.args.writer.now.shelf)) c.loop-watcher.watchers.items c.pop.new.self.items (Some c.in-Some.watcher) c.in-Some.ensures.items c.loop-watcher.invariant).0
