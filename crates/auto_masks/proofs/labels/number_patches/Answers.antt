use Rattle.std.proofs.Common.{◌≡◌, ◌*◌, ◌∙◌, arith, length}
use Rattle.std.specs.List.{range_with_len}
use Rattle.std.specs.Vec.{with_items}
use Rattle.std.proofs.lemmas.List.{with_items_is}
use Rattle.std.proofs.lemmas.List.FromFn.{length-range_with_len, get_or-range_with_len}
use Rattle.joined_cells.proofs.FloodLemmas.{flood_begins}
use Rattle.auto_masks.specs.Flood.{keys_joined}
use Rattle.auto_masks.specs.Patches.{key_at}
use Rattle.auto_masks.proofs.labels.number_patches.Goals as goal

pub join_all-requires-clause-joined : goal.join_all-requires-clause-joined
join_all-requires-clause-joined c =
    let w = c.args.extent.width in
    let n = w * c.args.extent.height in
    let K = key_at w c.args.keys.now in
    let items : c.deref_mut.result.now ≡ range_with_len 0 n = c.deref_mut.ensures.value ∙ c.in_ok-labels.ensures in
    rw items (flood_begins (keys_joined w c.args.extent.height K) (range_with_len 0 n) (length-range_with_len 0 n) (λ i l. get_or-range_with_len 0 n i 0 (omega (arith, l, length-range_with_len 0 n)) ∙ (omega arith)))

pub returns-clause-numbers : goal.returns-clause-numbers
returns-clause-numbers c =
    let v = with_items c.in_ok-labels.labels c.join_all.new.parents in
    let labels = c.number_all-count.new.labels in
    let size : length labels ≡ v.len = c.number_all-count.auto.labels ∙ c.deref_mut-2.ensures.len in
    rw (with_items_is v labels size) c.number_all-count.ensures.numbers
