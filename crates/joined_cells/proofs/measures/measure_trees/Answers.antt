use Rattle.std.proofs.Common.{◌≡◌, ◌∙◌, arith, length}
use Rattle.std.proofs.lemmas.List.{with_items_is}
use Rattle.joined_cells.proofs.MeasureLemmas.{zeros}
use Rattle.joined_cells.proofs.measures.measure_trees.Goals as goal

pub measure_all-requires-clause-zeros : goal.measure_all-requires-clause-zeros
measure_all-requires-clause-zeros c n = zeros c.deref_mut.result.now c.args.count (c.deref_mut.ensures.value ∙ c.in_ok-sizes.ensures.items_if_clones_equal (λ y h. h)) n

pub returns : goal.returns
returns c =
    let sizes = c.measure_all.new.sizes in
    let firsts = c.measure_all.new.firsts in
    let a : length sizes ≡ c.in_ok-sizes.sizes.len = c.measure_all.auto.sizes ∙ c.deref_mut.ensures.len in
    let b : length firsts ≡ c.in_ok-firsts.firsts.len = c.measure_all.auto.firsts ∙ c.deref_mut-2.ensures.len in
    let sized : length sizes ≡ c.args.count = a ∙ c.in_ok-sizes.ensures.len in
    rw (with_items_is c.in_ok-sizes.sizes sizes a, with_items_is c.in_ok-firsts.firsts firsts b) (record {
      sized = sized;
      placed = b ∙ c.in_ok-firsts.ensures.len;
      counts = λ n l. c.measure_all.ensures.sizes n (omega (arith, sized, l));
      places = λ n i l m e. c.measure_all.ensures.firsts n i (omega (arith, sized, l)) m e;
    })
