use Rattle.std.proofs.Common.{◌≡◌, ◌≤◌, ◌^◌, get_or}
use Rattle.std.specs.Prelude.{pos, neg_ℤ, ◌≤ℤ◌, unsigned_abs}
use Rattle.solver_tests.proofs.balance.sizes.Given as goal
use Rattle.sums_and_lists.specs.Sums.{sum_below}

abbrev pub invariant-loop-supply : goal.invariant-loop-supply
invariant-loop-supply l = record {
  total : l.total ≡ sum_below l.supply-index (λ v. get_or l.supplies v (pos 0));
  low : neg_ℤ (pos l.size) ≤ℤ l.total;
  high : l.total ≤ℤ pos l.size;
  small : sum_below l.supply-index (λ v. pos (unsigned_abs (get_or l.supplies v (pos 0)))) ≤ℤ pos l.size;
  room : l.size ≤ 2 ^ 62;
}
