use Rattle.std.proofs.Common.{◌≡◌, ◌∙◌, length}
use Rattle.surface_snapshots.specs.Shifted.{cycles_under}
use Rattle.surface_snapshots.proofs.VerdictLemmas.{flows_verdict, lists_regions}
use Rattle.surface_snapshots.proofs.levels.Levels.judge.Goals as goal

pub check_flows-requires-clause-regions : goal.check_flows-requires-clause-regions
check_flows-requires-clause-regions c =
    let s = c.args.self.now.surface in
    let v = c.args.regions.now in
    let counted : length c.deref_mut.result.now ≡ v.count = c.deref_mut.ensures.len ∙ c.in_ok-scratch.ensures.len ∙ c.count.ensures.value in
    lists_regions s.scene.now c.args.mask.now v c.requires.regions c.labels.result.now (length c.deref_mut.result.now) c.labels.ensures.value counted c.labels.ensures.size

pub returns : goal.returns
returns c =
    let s = c.args.self.now.surface in
    let v = c.args.regions.now in
    let counted : length c.deref_mut.result.now ≡ v.count = c.deref_mut.ensures.len ∙ c.in_ok-scratch.ensures.len ∙ c.count.ensures.value in
    flows_verdict s.scene.now c.args.mask.now v c.requires.regions c.labels.result.now (length c.deref_mut.result.now) c.labels.ensures.value counted
    (cycles_under s) c.args.flows.now c.check_flows.result c.check_flows.ensures.verdict
