use Rattle.std.proofs.Common.{◌≡◌, ◌+◌, ◌-◌, ◌*◌, ◌∙◌, ap, sym, subst, arith, List, ℕ, length}
use Rattle.raster_model.specs.Sums.{right_edge}
use Rattle.raster_model.specs.Weights.{edge_weight}
use Rattle.edge_weights.proofs.ListLemmas.{AreListed, right_row, written_back}
use Rattle.edge_weights.proofs.numbers.right.Goals as goal

pub loop-y-init : goal.loop-y-init
loop-y-init g c = record {
  count = sym c.in_ok-list.list.ok.0 ∙ c.in_ok-list.ensures.len;
  listed = λ k l. absurd (omega (arith, l));
}

pub loop-y-preserved : goal.loop-y-preserved
loop-y-preserved g c =
    let p = c.args.weights.now in
    let kind = g.R.EndRule.kind c.args.rule.now in
    let old : c.deref_mut.result.now ≡ c.loop-y.list.items = c.deref_mut.ensures.value in
    let count : length c.set_numbers.new.list ≡ length c.loop-y.list.items = c.set_numbers.ensures.count ∙ ap (λ (xs : List ℕ). length xs) old in
    let back = written_back c.loop-y.list.len c.set_numbers.new.list c.loop-y.list.items (c.loop-y.list.ok.0 ∙ sym count) in
    subst (λ (xs : List ℕ). record {
      count : length xs ≡ (p.width - 1) * p.height;
      listed : AreListed (λ x y. edge_weight kind p (right_edge x y)) (p.width - 1) ((c.loop-y.y + 1) * (p.width - 1)) xs;
    }) (sym back)
    (record {
      count = count ∙ c.loop-y.invariant.count;
      listed = right_row kind p (g.R.EndRule.maxval c.args.rule.now) c.deref-samples.result.now (sym c.requires) c.deref-samples.ensures.value c.loop-y.y c.deref_mut.result.now c.set_numbers.new.list c.loop-y-test.true c.set_numbers.ensures
          (subst (λ (xs : List ℕ). AreListed (λ x y. edge_weight kind p (right_edge x y)) (p.width - 1) (c.loop-y.y * (p.width - 1)) xs) (sym old) c.loop-y.invariant.listed);
    })

pub returns : goal.returns
returns g c =
    let p = c.args.weights.now in
    let kind = g.R.EndRule.kind c.args.rule.now in
    let last : c.loop-y.y ≡ p.height = omega arith in
    let all : c.loop-y.y * (p.width - 1) ≡ (p.width - 1) * p.height = rw last (omega arith) in
    (c.loop-y.invariant.count, subst (λ (n : ℕ). AreListed (λ x y. edge_weight kind p (right_edge x y)) (p.width - 1) n c.loop-y.list.items) all c.loop-y.invariant.listed)
