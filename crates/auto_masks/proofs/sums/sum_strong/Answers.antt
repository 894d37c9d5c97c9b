use Rattle.std.proofs.Common.{◌≡◌, ◌+◌, ◌*◌, ◌∙◌, length}
use Rattle.std.proofs.lemmas.List.{with_items_is}
use Rattle.joined_cells.proofs.MeasureLemmas.{zeros}
use Rattle.auto_masks.proofs.sums.sum_strong.Goals as goal

pub sum_rows-requires-clause-zeros : goal.sum_rows-requires-clause-zeros
sum_rows-requires-clause-zeros c n = zeros c.deref_mut.result.now ((c.args.weights.now.width + 1) * (c.args.weights.now.height + 1)) (c.deref_mut.ensures.value ∙ c.in_ok-sums.ensures.items_if_clones_equal (λ y h. h)) n

pub returns-clause-sums : goal.returns-clause-sums
returns-clause-sums c =
    let sums = c.sum_rows.new.sums in
    let a : length sums ≡ c.in_ok-sums.sums.len = c.sum_rows.auto.sums ∙ c.deref_mut.ensures.len in
    rw (with_items_is c.in_ok-sums.sums sums a) c.sum_rows.ensures

pub returns-clause-full : goal.returns-clause-full
returns-clause-full c =
    let sums = c.sum_rows.new.sums in
    let a : length sums ≡ c.in_ok-sums.sums.len = c.sum_rows.auto.sums ∙ c.deref_mut.ensures.len in
    rw (with_items_is c.in_ok-sums.sums sums a) (a ∙ c.in_ok-sums.ensures.len)
