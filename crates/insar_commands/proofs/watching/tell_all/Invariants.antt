use Rattle.std.proofs.Common.{◌≡◌, ◌<◌, ◌≤◌, ℕ, Some, length}
use Rattle.std.specs.Prelude.{Contains, slice_index_or}
use Rattle.reader_desk.specs.Fronts.{last_revision}
use Rattle.tile_workers.specs.Watching.{WatcherView}
use Rattle.insar_commands.specs.Watch.{IsReady}
use Rattle.insar_commands.proofs.watching.tell_all.Given as goal

abbrev pub invariant-loop-watcher : goal.invariant-loop-watcher
invariant-loop-watcher l = record {
  told : (k : ℕ) (d : WatcherView) → k < l.watcher-index → (last : ℕ) → last_revision l.writer.surfaces ≡ Some last → Contains (slice_index_or l.watchers k d).revisions last;
  ready : (k : ℕ) (d : WatcherView) → l.watcher-index ≤ k → k < length l.watchers → IsReady l.writer.shelf (slice_index_or l.watchers k d);
}
