use Rattle.std.proofs.Common.{◌≡◌, ℕ, ◌-◌, ◌<◌, ◌≤◌, get_or, length}
use Rattle.surface_snapshots.proofs.packing.span_end.Given as goal

abbrev pub invariant-loop-end : goal.invariant-loop-end
invariant-loop-end l = record {
  from : l.at < l.end;
  within : l.end ≤ length l.list;
  same : (p : ℕ) → l.at ≤ p → p < l.end → get_or l.list p 0 ≡ get_or l.list l.at 0;
}

abbrev pub decreases-loop-end : goal.decreases-loop-end
decreases-loop-end l = length l.list - l.end
