-- Weights listed place by place are the rule's.
use Rattle.std.proofs.Common.{◌≡◌, ℕ, ◌+◌, ◌-◌, ◌*◌, ◌/◌, ◌%◌, ◌<◌, ◌∙◌, arith, Bool, true, false, refl}
use Rattle.std.specs.Prelude.{IsTrue}
use Rattle.std.proofs.lemmas.Nat.{mod_below, div_below, div-mul-add, mod-mul-add}
use Rattle.raster_model.specs.declared.plane.Plane.{Plane}
use Rattle.raster_model.specs.declared.weights.RuleKind.{RuleKind}
use Rattle.raster_model.specs.declared.weights.EdgeWeights.{EdgeWeights}
use Rattle.raster_model.specs.Sums.{right_edge, down_edge, is_edge}
use Rattle.raster_model.specs.Weights.{edge_weight, stored_weight, AreRuleWeights}
use Rattle.raster_model.specs.Plain.{AreRightWeights, AreDownWeights}
use Rattle.raster_model.proofs.SumLemmas.{right_is_edge, down_is_edge}
use Rattle.raster_model.proofs.WeightLemmas.{right_place, down_place, right_tells, down_tells}

positive : (a b k : ℕ) → k < a * b → 0 < a
positive a b k l = grind arith

-- the edge at a place of the list
pub right_at : (w h k : ℕ) → k < (w - 1) * h → IsTrue (is_edge w h (right_edge (k % (w - 1)) (k / (w - 1))))
right_at w h k l =
    let p = positive (w - 1) h k l in
    let m = mod_below k (w - 1) p in
    let q : k / (w - 1) < h = div_below k (w - 1) h p (omega arith) in
    right_is_edge w h (k % (w - 1)) (k / (w - 1)) (omega arith) q (omega arith)

pub down_at : (w h k : ℕ) → k < w * (h - 1) → IsTrue (is_edge w h (down_edge (k % w) (k / w)))
down_at w h k l =
    let p = positive w (h - 1) k l in
    let m = mod_below k w p in
    let q : k / w < h - 1 = div_below k w (h - 1) p (omega arith) in
    down_is_edge w h (k % w) (k / w) m (omega arith) (omega arith)

module _ (rule : RuleKind) (p : Plane) (edges : EdgeWeights) (rights : AreRightWeights rule p ((p.width - 1) * p.height) edges.right.items) (downs : AreDownWeights rule p (p.width * (p.height - 1)) edges.down.items) where
  pub rule_weights : AreRuleWeights rule p edges
  rule_weights = record {
    rights = edges.right.ok.0 ∙ rights.0;
    downs = edges.down.ok.0 ∙ downs.0;
    weighed = λ e i. go e.x e.y e.down i;
  }
    where
      go : (x y : ℕ) (d : Bool) → IsTrue (is_edge p.width p.height (record { x = x; y = y; down = d })) → stored_weight p.width edges (record { x = x; y = y; down = d }) ≡ edge_weight rule p (record { x = x; y = y; down = d })
      go x y false i =
          let t = right_tells p.width p.height x y i in
          rw (mod-mul-add y (p.width - 1) x t.0, div-mul-add y (p.width - 1) x t.0) at (rights.1 (y * (p.width - 1) + x) (right_place p.width p.height (right_edge x y) refl i))
      go x y true i =
          let t = down_tells p.width p.height x y i in
          let l : x < p.width = t.0 in
          rw (mod-mul-add y p.width x l, div-mul-add y p.width x l) at (downs.1 (y * p.width + x) (down_place p.width p.height (down_edge x y) refl i))
