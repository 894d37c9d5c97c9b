use Rattle.std.proofs.Common.{◌≡◌, ◌-◌, ◌*◌, ◌≤◌, ◌∙◌, ap, sym, subst, arith, List, ℕ, length}
use Rattle.raster_model.specs.Sums.{down_edge}
use Rattle.raster_model.specs.Weights.{edge_weight}
use Rattle.edge_weights.proofs.ListLemmas.{AreListed, down_rows, full, written_back}
use Rattle.edge_weights.proofs.numbers.down.Goals as goal

fewer : (w h : ℕ) → w * (h - 1) ≤ w * h
fewer w h = grind arith

pub returns : goal.returns
returns g c =
    let p = c.args.weights.now in
    let kind = g.R.EndRule.kind c.args.rule.now in
    let n = p.width * (p.height - 1) in
    let count : length c.set_numbers.new.list ≡ n = c.set_numbers.ensures.count ∙ ap (λ (xs : List ℕ). length xs) c.deref_mut.ensures.value ∙ sym c.in_ok-list.list.ok.0 ∙ c.in_ok-list.ensures.len in
    let back = written_back c.in_ok-list.list.len c.set_numbers.new.list c.in_ok-list.list.items (c.in_ok-list.ensures.len ∙ sym count) in
    let some = fewer p.width p.height in
    let all = full kind p (g.R.EndRule.maxval c.args.rule.now) c.deref-samples.result.now (sym c.requires) c.deref-samples.ensures.value in
    subst (λ (xs : List ℕ). (length xs ≡ n) × AreListed (λ x y. edge_weight kind p (down_edge x y)) p.width n xs) (sym back)
    (count, down_rows kind p (g.R.EndRule.maxval c.args.rule.now) c.deref-samples.result.now (sym c.requires) c.deref-samples.ensures.value n c.deref_mut.result.now c.set_numbers.new.list (omega (arith, all, some)) c.set_numbers.ensures)
