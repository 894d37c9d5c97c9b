use Rattle.std.proofs.Common.{◌≡◌, ◌+◌, []}
use Rattle.std.specs.Prelude.{slice_index_or}
use Rattle.text_lines.specs.Adding.{Adds}
use Rattle.text_lines.specs.Text.{texts_below}
use Rattle.text_lines.specs.Views.{view_of}
use Rattle.answer_lines.specs.WatchLines.{reader_line}
use Rattle.insar_commands.specs.Watch.{all_seen}
use Rattle.insar_commands.proofs.watch.add_readers.Given as goal

abbrev pub invariant-loop-watcher : goal.invariant-loop-watcher
invariant-loop-watcher g l = record {
  number : l.number ≡ l.watcher-index;
  added : Adds (view_of g.K.Sink.held g.K.Sink.faults l.fn.text) (view_of g.K.Sink.held g.K.Sink.faults l.text) (texts_below l.watcher-index (λ reader. reader_line (reader + 1) (slice_index_or (all_seen l.fn.published l.watchers) reader [])));
}
