use Rattle.std.proofs.Common.{◌≡◌, ℕ, ◌≤◌}
use Rattle.joined_cells.specs.Forest.{IsForest}
use Rattle.joined_cells.proofs.forest.root_of.Given as goal

abbrev pub invariant-loop-parents : goal.invariant-loop-parents
invariant-loop-parents l = record {
  least : l.here ≤ l.place;
  kept : (root : ℕ → ℕ) → IsForest l.fn.parents root → IsForest l.parents root × (root l.here ≡ root l.place);
}

abbrev pub decreases-loop-parents : goal.decreases-loop-parents
decreases-loop-parents l = l.here
