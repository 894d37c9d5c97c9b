use Rattle.std.proofs.Common.{◌≡◌, length}
use Rattle.std.specs.Prelude.{All}
use Rattle.reader_desk.proofs.shelf.readers_of.Given as goal

abbrev pub invariant-loop-made : goal.invariant-loop-made
invariant-loop-made l = record {
  same : l.writer ≡ l.fn.writer;
  size : length l.readers.items ≡ l.made;
  each : All (λ reader. reader ≡ l.fn.writer) l.readers.items;
}
