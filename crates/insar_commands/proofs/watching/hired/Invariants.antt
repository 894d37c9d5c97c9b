use Rattle.std.proofs.Common.{◌≡◌, ◌+◌, All, length}
use Rattle.reader_desk.specs.Fronts.{ShelfView}
use Rattle.insar_commands.specs.Watch.{IsFresh}
use Rattle.insar_commands.proofs.watching.hired.Given as goal

abbrev pub invariant-loop-reader : goal.invariant-loop-reader
invariant-loop-reader l = record {
  fresh : All (IsFresh l.writer.shelf l.reads) l.watchers.items;
  own : All (λ (r : ShelfView). r ≡ l.writer) l.readers.items;
  count : length l.watchers.items + length l.readers.items ≡ length l.fn.readers.items;
}

abbrev pub decreases-loop-reader : goal.decreases-loop-reader
decreases-loop-reader l = length l.readers.items
