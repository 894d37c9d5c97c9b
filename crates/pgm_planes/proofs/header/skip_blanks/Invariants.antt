use Rattle.std.proofs.Common.{◌≡◌, ◌-◌}
use Rattle.pgm_planes.proofs.Words.{source_name, limit_of, handed_of, call_of, blanks_at}
use Rattle.pgm_planes.proofs.CallLemmas.{Goes}
use Rattle.pgm_planes.proofs.header.skip_blanks.Given as goal

abbrev pub invariant-loop-byte : goal.invariant-loop-byte
invariant-loop-byte g l = record {
  same_source : source_name l.feed ≡ source_name l.fn.feed;
  limit : limit_of l.feed ≡ limit_of l.fn.feed;
  goes : Goes (call_of g.S.Source.left g.S.Source.faults l.fn.feed l.feed) blanks_at blanks_at;
}

abbrev pub decreases-loop-byte : goal.decreases-loop-byte
decreases-loop-byte g l = limit_of l.feed - handed_of l.feed
