use Rattle.std.proofs.Common.{◌≡◌, ◌∙◌, ℕ, List, ap, arith, length}
use Rattle.std.specs.Prelude.{slice_index}
use Rattle.std.proofs.lemmas.List.{with_items_is}
use Rattle.certain_parts.specs.Labels.{enough, size_of}
use Rattle.certain_parts.proofs.LabelLemmas.{enough_alike, rank_alike}
use Rattle.certain_parts.proofs.labels.rank_trees.Goals as goal

pub returns-clause-ranked : goal.returns-clause-ranked
returns-clause-ranked c i l m =
    let labels = c.args.labels.now in
    let sizes = c.deref_mut.result.now in
    let n = slice_index labels i in
    let is = c.in_ok-ranks.ensures in
    let value : sizes ≡ c.in_ok-ranks.field-0.sizes.items = c.deref_mut.ensures.value in
    let sized : length sizes ≡ c.args.total = ap length value ∙ is.sized in
    c.relabel.ensures.numbers i l
    ∙ ap (λ (numbers : List ℕ). slice_index numbers n) (c.deref.ensures.value ∙ with_items_is c.in_ok-ranks.field-0.sizes c.rank_sizes-count.new.sizes (c.rank_sizes-count.auto.sizes ∙ c.deref_mut.ensures.len))
    ∙ c.rank_sizes-count.ensures.ranks n (omega (arith, sized, m))
    ∙ rank_alike c.args.least n (λ (k : ℕ). slice_index sizes k) (size_of labels) (λ k h. ap (λ (list : List ℕ). slice_index list k) value ∙ is.counts k (omega (arith, h, m)))

pub returns-clause-count : goal.returns-clause-count
returns-clause-count c =
    let labels = c.args.labels.now in
    let sizes = c.deref_mut.result.now in
    let is = c.in_ok-ranks.ensures in
    let value : sizes ≡ c.in_ok-ranks.field-0.sizes.items = c.deref_mut.ensures.value in
    let sized : length sizes ≡ c.args.total = ap length value ∙ is.sized in
    c.rank_sizes-count.ensures.count
    ∙ ap (enough c.args.least (λ (k : ℕ). slice_index sizes k)) sized
    ∙ enough_alike c.args.least c.args.total (λ (k : ℕ). slice_index sizes k) (size_of labels) (λ k h. ap (λ (list : List ℕ). slice_index list k) value ∙ is.counts k h)
