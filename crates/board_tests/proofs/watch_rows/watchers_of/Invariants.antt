use Rattle.std.proofs.Common.{◌≡◌, length}
use Rattle.std.specs.List.{All}
use Rattle.reader_desk.specs.Fronts.{ShelfView}
use Rattle.tile_workers.specs.Watching.{HasRoom, WatcherView}
use Rattle.board_tests.proofs.watch_rows.watchers_of.Given as goal

abbrev pub invariant-loop-reader : goal.invariant-loop-reader
invariant-loop-reader l =
    All (λ (reader : ShelfView). reader ≡ l._writer) l.readers.items × All HasRoom l.watchers.items × All (λ (watcher : WatcherView). watcher.reader.shelf ≡ l._writer.shelf) l.watchers.items

abbrev pub decreases-loop-reader : goal.decreases-loop-reader
decreases-loop-reader l = length l.readers.items
