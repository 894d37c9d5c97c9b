use Rattle.std.proofs.Common.{length, ◌-◌, ◌+◌, ◌≡◌, ◌≤◌, take}
use Rattle.insar_ports.specs.Feeding.{faults_of, handed_of, left_of, limit_of, source_name}
use Rattle.insar_ports.specs.Lines.{AreGone}
use Rattle.insar_ports.proofs.feed.Feed+S.next_line.Given as goal

abbrev pub invariant-loop-byte : goal.invariant-loop-byte
invariant-loop-byte g l = record {
  within : l.count ≤ length l.into;
  name : source_name l.self ≡ source_name l.fn.self;
  limit : limit_of l.self ≡ limit_of l.fn.self;
  grows : faults_of g.S.Source.faults l.fn.self ≤ faults_of g.S.Source.faults l.self;
  gone : AreGone (take l.count l.into) (left_of g.S.Source.left l.fn.self) (left_of g.S.Source.left l.self);
  handed : handed_of l.self ≡ handed_of l.fn.self + l.count;
}

abbrev pub decreases-loop-byte : goal.decreases-loop-byte
decreases-loop-byte g l = length l.into - l.count
