use Rattle.std.proofs.Common.{◌≡◌, ◌∙◌, length}
use Rattle.surface_snapshots.proofs.VerdictLemmas.{lists_regions}
use Rattle.solver_tests.proofs.seam_rows.checked.Goals as goal

pub check_flows-requires-clause-regions : goal.check_flows-requires-clause-regions
check_flows-requires-clause-regions c =
    let s = c.args.scene.now in
    let v = c.args.regions.now in
    let counted : length c.deref_mut.result.now ≡ v.count = c.deref_mut.ensures.len ∙ c.in_ok-scratch.ensures.len ∙ c.count.ensures.value in
    lists_regions s c.args.mask.now v c.requires.regions c.labels-labels.result.now (length c.deref_mut.result.now) c.labels-labels.ensures.value counted c.labels-labels.ensures.size
