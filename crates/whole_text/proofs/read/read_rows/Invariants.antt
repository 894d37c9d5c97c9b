use Rattle.std.proofs.Common.{◌≡◌, ◌*◌, length}
use Rattle.text_lines.specs.Numbers.{AreLongs}
use Rattle.text_parts.specs.Steps.{Took, place_of}
use Rattle.whole_text.specs.Parts.{lines_of_rows, rows_in}
use Rattle.whole_text.proofs.read.read_rows.Given as goal

abbrev pub invariant-loop : goal.invariant-loop
invariant-loop g l = record {
  took : Took (lines_of_rows l.counter (rows_in l.across l.faces)) (place_of g.S.Source.left g.S.Source.faults l.fn.feed l.fn.lines) (place_of g.S.Source.left g.S.Source.faults l.feed l.lines);
  full : length l.faces.items ≡ l.counter * l.across;
  longs : AreLongs l.faces.items;
}
