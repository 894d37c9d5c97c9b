use Rattle.std.proofs.Common.{◌≡◌, ◌++◌, List, ℕ, length}
use Rattle.insar_ports.specs.Calls.{Moves, call_of}
use Rattle.insar_ports.specs.Feeding.{limit_of, source_name}
use Rattle.text_lines.specs.Forms.{AreWholeLines, IsText}
use Rattle.text_lines.specs.LineWords.{TakesLines, lines_read}
use Rattle.text_lines.proofs.expect.expect_text.Given as goal

abbrev pub invariant-loop-count : goal.invariant-loop-count
invariant-loop-count g l = record {
  name : source_name l.feed ≡ source_name l.fn.feed;
  limit : limit_of l.feed ≡ limit_of l.fn.feed;
  moves : Moves (call_of g.S.Source.left g.S.Source.faults l.fn.feed l.feed);
  front : (front : List ℕ) × ((l.text ≡ front ++ l.rest) × (AreWholeLines front × TakesLines (IsText front) (lines_read l.fn.lines) (lines_read l.lines) (call_of g.S.Source.left g.S.Source.faults l.fn.feed l.feed)));
}

abbrev pub decreases-loop-count : goal.decreases-loop-count
decreases-loop-count g l = length l.rest
