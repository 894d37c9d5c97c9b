use Rattle.std.proofs.Common.{◌≡◌, ◌-◌, ◌*◌, length}
use Rattle.raster_model.specs.Sums.{right_edge}
use Rattle.raster_model.specs.Weights.{edge_weight}
use Rattle.edge_weights.proofs.ListLemmas.{AreListed}
use Rattle.edge_weights.proofs.numbers.right.Given as goal

abbrev pub invariant-loop-y : goal.invariant-loop-y
invariant-loop-y g l = record {
  count : length l.list.items ≡ (l.weights.width - 1) * l.weights.height;
  listed : AreListed (λ x y. edge_weight (g.R.EndRule.kind l.rule) l.weights (right_edge x y)) (l.weights.width - 1) (l.y * (l.weights.width - 1)) l.list.items;
}
