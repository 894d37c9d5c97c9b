use Rattle.std.proofs.Common.{◌≡◌, ◌≤◌, ◌-◌, [], false, length}
use Rattle.insar_ports.specs.Calls.{Moves, Takes, call_of}
use Rattle.insar_ports.specs.Feeding.{handed_of, limit_of, source_name}
use Rattle.text_lines.specs.LineWords.{KeepsPart, kept_line, lines_read}
use Rattle.text_lines.proofs.lines.Lines.take_line.Given as goal

abbrev pub invariant-loop-ended : goal.invariant-loop-ended
invariant-loop-ended g l = record {
  name : source_name l.feed ≡ source_name l.fn.feed;
  limit : limit_of l.feed ≡ limit_of l.fn.feed;
  moves : Moves (call_of g.S.Source.left g.S.Source.faults l.fn.feed l.feed);
  number : lines_read l.self ≡ lines_read l.fn.self;
  room : length (kept_line l.self) ≤ l.most;
  kept : Takes (call_of g.S.Source.left g.S.Source.faults l.fn.feed l.feed) (KeepsPart l.most [] (kept_line l.self) false);
}

abbrev pub decreases-loop-ended : goal.decreases-loop-ended
decreases-loop-ended g l = limit_of l.feed - handed_of l.feed
