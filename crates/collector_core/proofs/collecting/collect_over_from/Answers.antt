use Rattle.std.proofs.Common.{rules}
use Rattle.std.proofs.lemmas.Result.{IfOk-weaker}
use Rattle.std.specs.Arc.{arc_value}
use Rattle.raster_model.specs.Masks.{open_at}
use Rattle.collector_core.proofs.CollectLemmas.{certify_gathered, publishable}
use Rattle.collector_core.proofs.JoinLemmas.{good_in_set}
use Rattle.collector_core.proofs.collecting.collect_over_from.Goals as goal

pub solve_offsets_from-requires : goal.solve_offsets_from-requires
solve_offsets_from-requires c =
    let g = c.args.gathered.now in
    record { same_size = search rules; labelled = search rules; solved = rw c.deref.ensures (good_in_set (arc_value g.session).scene (open_at g.mask) g.tiles g.tiling g.good) }

pub returns-clause-good : goal.returns-clause-good
returns-clause-good c =
    let good = rw c.deref.ensures at c.solve_offsets_from.ensures.good in
    IfOk-weaker c.solve_offsets_from.result _ _ (λ seams is. certify_gathered c.args.gathered.now c.args.regions.now seams c.requires is) good

pub returns-clause-publishable : goal.returns-clause-publishable
returns-clause-publishable c =
    let good = rw c.deref.ensures at c.solve_offsets_from.ensures.good in
    IfOk-weaker c.solve_offsets_from.result _ _ (λ seams is. publishable c.args.gathered.now c.args.regions.now seams c.requires is) good
