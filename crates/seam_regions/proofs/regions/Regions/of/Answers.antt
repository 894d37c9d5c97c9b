use Rattle.std.proofs.Common.{◌≡◌, ◌*◌, ◌∙◌, arith, length}
use Rattle.std.specs.List.{range_with_len}
use Rattle.std.specs.Vec.{with_items}
use Rattle.std.proofs.lemmas.List.{with_items_is}
use Rattle.std.proofs.lemmas.List.FromFn.{length-range_with_len, get_or-range_with_len}
use Rattle.raster_model.specs.Masks.{open_at}
use Rattle.joined_cells.proofs.FloodLemmas.{flood_begins}
use Rattle.seam_regions.specs.Flood.{tiling_joined}
use Rattle.seam_regions.proofs.RegionLemmas.{regions_are}
use Rattle.seam_regions.proofs.regions.Regions.of.Goals as goal

pub join_all-requires-clause-flood : goal.join_all-requires-clause-flood
join_all-requires-clause-flood c =
    let n = c.args.tiling.now.width * c.args.tiling.now.height in
    let items : c.deref_mut.result.now ≡ range_with_len 0 n = c.deref_mut.ensures.value ∙ c.in_ok-labels.ensures in
    rw items (flood_begins (tiling_joined c.args.tiling.now (open_at c.args.mask.now)) (range_with_len 0 n) (length-range_with_len 0 n) (λ i l. get_or-range_with_len 0 n i 0 (omega (arith, l, length-range_with_len 0 n)) ∙ (omega arith)))

pub returns : goal.returns
returns c =
    let v = with_items c.in_ok-labels.labels c.join_all.new.parents in
    let labels = c.number_all-count.new.labels in
    let size : length labels ≡ v.len = c.number_all-count.auto.labels ∙ c.deref_mut-2.ensures.len in
    rw (with_items_is v labels size) (regions_are c.args.tiling.now c.args.mask.now labels c.number_all-count.result c.number_all-count.ensures.numbers c.number_all-count.ensures.few)
