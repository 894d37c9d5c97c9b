use Rattle.std.proofs.Common.{◌≡◌, ◌<◌, ℕ, length}
use Rattle.shortest_augment.specs.Labels.{IsFalling}
use Rattle.shortest_augment.proofs.search.set_falls.Given as goal

abbrev pub invariant-loop-place : goal.invariant-loop-place
invariant-loop-place l = record {
  count : length l.amounts.items ≡ length l.fn.amounts.items;
  falling : (v : ℕ) → v < length l.fn.amounts.items → IsFalling l.labels.items l.touched.items l.at l.amounts.items l.place v;
}
