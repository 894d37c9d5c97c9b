use Rattle.std.proofs.Common.{◌≡◌, ◌≤◌, length}
use Rattle.std.specs.List.{All}
use Rattle.tile_workers.specs.Watching.{WatcherView}
use Rattle.board_tests.proofs.watch_rows.finished.Given as goal

abbrev pub invariant-loop-watcher : goal.invariant-loop-watcher
invariant-loop-watcher l = All (λ (watcher : WatcherView). (1 ≤ watcher.room) × (watcher.reader.shelf ≡ l.writer.shelf)) l.watchers.items

abbrev pub decreases-loop-watcher : goal.decreases-loop-watcher
decreases-loop-watcher l = length l.watchers.items
