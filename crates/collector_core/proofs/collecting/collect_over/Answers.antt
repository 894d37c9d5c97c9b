use Rattle.std.proofs.Common.{rules}
use Rattle.std.proofs.lemmas.Result.{IfOk-weaker}
use Rattle.std.specs.Arc.{arc_value}
use Rattle.raster_model.specs.Masks.{open_at}
use Rattle.collector_core.proofs.CollectLemmas.{certify_gathered, publishable}
use Rattle.collector_core.proofs.JoinLemmas.{good_in_set}
use Rattle.collector_core.proofs.collecting.collect_over.Goals as goal

pub solve_offsets_side_by_side-requires : goal.solve_offsets_side_by_side-requires
solve_offsets_side_by_side-requires g c =
    let k = c.args.gathered.now in
    (search rules, record { same_size = search rules; labelled = search rules; solved = rw c.deref.ensures (good_in_set (arc_value k.session).scene (open_at k.mask) k.tiles k.tiling k.good) })

pub returns-clause-good : goal.returns-clause-good
returns-clause-good g c =
    let good = rw c.deref.ensures at c.solve_offsets_side_by_side.ensures.good in
    IfOk-weaker c.solve_offsets_side_by_side.result _ _ (λ seams is. certify_gathered c.args.gathered.now c.args.regions.now seams c.requires is) good

pub returns-clause-publishable : goal.returns-clause-publishable
returns-clause-publishable g c =
    let good = rw c.deref.ensures at c.solve_offsets_side_by_side.ensures.good in
    IfOk-weaker c.solve_offsets_side_by_side.result _ _ (λ seams is. publishable c.args.gathered.now c.args.regions.now seams c.requires is) good
