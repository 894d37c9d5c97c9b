use Rattle.std.proofs.Common.{◌≡◌, ◌*◌, ◌<◌, ◌∙◌, arith, length}
use Rattle.std.specs.List.{range_with_len}
use Rattle.std.specs.Vec.{with_items}
use Rattle.std.proofs.lemmas.List.{with_items_is}
use Rattle.std.proofs.lemmas.List.FromFn.{length-range_with_len, get_or-range_with_len}
use Rattle.joined_cells.proofs.FloodLemmas.{flood_begins}
use Rattle.joined_cells.proofs.NumberLemmas.{size_says}
use Rattle.joined_cells.proofs.RegionLemmas.{has_tree_numbers}
use Rattle.joined_cells.proofs.trees.number_trees.Goals as goal

pub join_all-requires : goal.join_all-requires
join_all-requires g c =
    let joining = g.T.EdgeTest.joining c.args.test.now in
    let n = joining.width * joining.height in
    let items : c.deref_mut.result.now ≡ range_with_len 0 n = rw (c.width.ensures.width, c.height.ensures) at (c.deref_mut.ensures.value ∙ c.in_ok-labels.ensures) in
    record { joined = rw items (flood_begins joining (range_with_len 0 n) (length-range_with_len 0 n) (λ i l. get_or-range_with_len 0 n i 0 (omega (arith, l, length-range_with_len 0 n)) ∙ (omega arith))) }

pub returns : goal.returns
returns g c =
    let joining = g.T.EdgeTest.joining c.args.test.now in
    let v = with_items c.in_ok-labels.labels c.join_all.new.parents in
    let labels = c.number_all-count.new.labels in
    let size : length labels ≡ v.len = c.number_all-count.auto.labels ∙ c.deref_mut-2.ensures.len in
    let wide : 0 < joining.width = omega (arith, (size_says joining.width joining.height c.width.ensures.sized).0) in
    rw (with_items_is v labels size) (has_tree_numbers joining labels c.number_all-count.result wide c.number_all-count.ensures)
