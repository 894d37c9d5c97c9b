use Rattle.std.proofs.Common.{◌≡◌, ◌<◌, ℕ, length}
use Rattle.shortest_augment.specs.Labels.{IsUntouched}
use Rattle.shortest_augment.proofs.search.wipe.Given as goal

abbrev pub invariant-loop-place : goal.invariant-loop-place
invariant-loop-place g l =
    let s = g.N.FlowNet.shape l.net in
    record {
      labels : length l.search.labels.items ≡ s.nodes;
      amounts : length l.search.amounts.items ≡ s.nodes;
      steps : l.search.steps.items ≡ l.fn.search.steps.items;
      touched : l.search.touched.items ≡ l.fn.search.touched.items;
      fresh : (v : ℕ) → v < s.nodes → IsUntouched l.search l.place v;
    }
