use Rattle.std.proofs.Common.{◌∙◌, subst, sym}
use Rattle.seam_regions.specs.RegionsView.{RegionsView}
use Rattle.seam_regions.specs.Regions.{region_label}
use Rattle.certificates.specs.SeamVerdicts.{IsSeamVerdict}
use Rattle.surface_snapshots.specs.Parts.{flows_in, open_in, parts_from, raster_in, shifted_cycles}
use Rattle.surface_snapshots.specs.Verdicts.{IsPartsVerdict}
use Rattle.surface_snapshots.proofs.VerdictLemmas.{judged}
use Rattle.surface_snapshots.proofs.costs.judged_costs.Goals as goal

pub returns-in_default-2 : goal.returns-in_default-2
returns-in_default-2 c =
    let v = c.args.regions.now in
    let p = parts_from c.args.session.now c.args.mask.now v c.args.tiles.now c.args.seams.now in
    let e = c.shifted-surface.ensures in
    let said = rw (c.in_ok-levels.ensures, e.scene, e.regions, e.tiles, e.offsets, c.deref-2.ensures.value, c.deref-3.ensures.value) at c.in_ok-verdict.ensures in
    record {
      refused = (
        c.in_default-2.not-Good,
        judged p c.in_ok-verdict.verdict
            (sym c.args.seams.now.offsets.ok.0 ∙ sym c.len.ensures ∙ c.if-len-count.false ∙ c.count.ensures.value)
            (rw c.deref.ensures.value at c.in_default.ensures.none)
            (subst (λ (u : RegionsView). IsSeamVerdict (raster_in p) (open_in p) (region_label v) v.count (shifted_cycles p.session.scene u c.args.tiles.now.results c.args.seams.now.offsets.items) (flows_in p) c.in_ok-verdict.verdict) c.in_ok-tiled.ensures.regions said),
      );
      tiling = tt;
      regions = tt;
      mask = tt;
      certified = tt;
      costs = tt;
    }

pub returns-clause-certified : goal.returns-clause-certified
returns-clause-certified c =
    let v = c.args.regions.now in
    let p = parts_from c.args.session.now c.args.mask.now v c.args.tiles.now c.args.seams.now in
    let e = c.shifted-surface.ensures in
    let said = rw (c.in_ok-levels.ensures, e.scene, e.regions, e.tiles, e.offsets, c.deref-2.ensures.value, c.deref-3.ensures.value) at c.in_ok-verdict.ensures in
    subst (IsPartsVerdict p) c.in-Good.is
    (judged p c.in_ok-verdict.verdict
    (sym c.args.seams.now.offsets.ok.0 ∙ sym c.len.ensures ∙ c.if-len-count.false ∙ c.count.ensures.value)
    (rw c.deref.ensures.value at c.in_default.ensures.none)
    (subst (λ (u : RegionsView). IsSeamVerdict (raster_in p) (open_in p) (region_label v) v.count (shifted_cycles p.session.scene u c.args.tiles.now.results c.args.seams.now.offsets.items) (flows_in p) c.in_ok-verdict.verdict) c.in_ok-tiled.ensures.regions said))
