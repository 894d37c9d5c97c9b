use Rattle.std.proofs.Common.{◌≡◌, ◌≤◌, ◌-◌, ℕ, vec_len, get_or}
use Rattle.pgm_planes.proofs.Words.{source_name, limit_of, call_of, samples_at}
use Rattle.pgm_planes.proofs.CallLemmas.{Goes}
use Rattle.pgm_planes.proofs.StepLemmas.{and_others}
use Rattle.pgm_planes.proofs.samples.read_samples.Given as goal

abbrev pub invariant-loop-index : goal.invariant-loop-index
invariant-loop-index g l = record {
  same_source : source_name l.feed ≡ source_name l.fn.feed;
  limit : limit_of l.feed ≡ limit_of l.fn.feed;
  count : vec_len l.samples ≡ l.index;
  within : l.index ≤ l.count;
  below : (k : ℕ) → get_or l.samples.items k 0 ≤ l.maxval;
  goes : Goes (call_of g.S.Source.left g.S.Source.faults l.fn.feed l.feed) (samples_at l.form l.maxval l.count 0) (and_others l.samples.items l.form l.maxval (l.count - l.index) l.index);
}

abbrev pub decreases-loop-index : goal.decreases-loop-index
decreases-loop-index g l = l.count - l.index
