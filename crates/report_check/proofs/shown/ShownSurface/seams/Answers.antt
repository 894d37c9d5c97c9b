use Rattle.std.proofs.Common.{◌≡◌, ◌∙◌, ap, length, sym}
use Rattle.raster_model.specs.Raster.{Raster}
use Rattle.certificates.specs.SeamVerdicts.{label_at}
use Rattle.surface_snapshots.proofs.VerdictLemmas.{lists_regions}
use Rattle.report_check.proofs.shown.ShownSurface.seams.Goals as goal

pub check_flows-requires-clause-regions : goal.check_flows-requires-clause-regions
check_flows-requires-clause-regions c =
    let s = c.args.self.now in
    let v = c.in_ok-regions.regions in
    let counted : length c.deref_mut.result.now ≡ v.count = c.deref_mut.ensures.len ∙ c.in_ok-scratch.ensures.len ∙ c.count.ensures.value in
    lists_regions s.scene.now s.mask.now v c.in_ok-regions.ensures c.labels.result.now (length c.deref_mut.result.now) c.labels.ensures.value counted c.labels.ensures.size

pub returns : goal.returns
returns c =
    let s = c.args.self.now in
    let v = c.in_ok-regions.regions in
    let width = ap (λ (r : Raster). r.width) s.raster ∙ sym s.grid_size.0 in
    let counted : length c.deref_mut.result.now ≡ v.count = c.deref_mut.ensures.len ∙ c.in_ok-scratch.ensures.len ∙ c.count.ensures.value in
    let listed = lists_regions s.scene.now s.mask.now v c.in_ok-regions.ensures c.labels.result.now (length c.deref_mut.result.now) c.labels.ensures.value counted c.labels.ensures.size in
    record {
      labels = label_at s.scene.now.phase.width c.labels.result.now;
      count = length c.deref_mut.result.now;
      regions = listed.1;
      says = rw (c.deref.ensures.value, c.values.ensures.sheet, c.values.ensures.values, width) at c.check_flows.ensures.verdict;
    }
