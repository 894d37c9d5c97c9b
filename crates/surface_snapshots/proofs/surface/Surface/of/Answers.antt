use Rattle.std.proofs.Common.{◌≡◌, ◌∙◌, ap, subst, sym}
use Rattle.std.specs.Arc.{arc_value}
use Rattle.certificates.specs.declared.verdicts.SeamVerdict.TheVariants.{Good}
use Rattle.seam_regions.specs.RegionsView.{RegionsView}
use Rattle.surface_snapshots.specs.Loops.{GoTogether}
use Rattle.surface_snapshots.specs.Parts.{HaveCosts, IsPublished, Parts, parts_from}
use Rattle.surface_snapshots.specs.Tiled.{regions_in}
use Rattle.surface_snapshots.specs.Verdicts.{IsPartsVerdict}
use Rattle.surface_snapshots.proofs.MaskLemmas.{parts_told}
use Rattle.surface_snapshots.proofs.PublishedLemmas.{published}
use Rattle.surface_snapshots.proofs.ShiftedLemmas.{go_together}
use Rattle.surface_snapshots.proofs.surface.Surface.of.Goals as goal

pub invariant_of-result : goal.invariant_of-result
invariant_of-result c =
    let p = parts_from (arc_value c.args.session) c.args.mask c.args.regions c.args.tiles c.args.seams in
    let regions : regions_in c.regions_beside.result ≡ c.args.regions = c.regions_beside.ensures.regions ∙ c.requires.same in
    let same = sym (parts_told (arc_value c.args.session) c.args.mask c.args.regions (regions_in c.regions_beside.result) c.args.tiles c.args.seams (arc_value c.in_ok-flows.flows).items c.requires.told regions c.in_ok-flows.ensures) in
    record {
      together = subst (λ (q : Parts). GoTogether q.session.scene q.mask q.regions q.tiles.results) same (go_together p.session.scene c.args.mask c.args.regions c.requires.across c.requires.along c.requires.regions c.args.tiles.results c.requires.tiles);
      tiling = c.requires.tiling;
      places = c.regions_beside.ensures.tiling ∙ c.requires.places;
      count = c.requires.good.0 ∙ sym (ap (λ (v : RegionsView). v.count) regions);
      near = c.requires.good.1;
      published = subst IsPublished same (published p c.requires.tiles c.requires.regions c.requires.good);
      costs = subst (λ (q : Parts). HaveCosts q c.args.certified.costs.tiles c.args.certified.costs.seams) same c.requires.costs;
    }

pub returns-clause-parts : goal.returns-clause-parts
returns-clause-parts c =
    parts_told (arc_value c.args.session) c.args.mask c.args.regions (regions_in c.regions_beside.result) c.args.tiles c.args.seams (arc_value c.in_ok-flows.flows).items c.requires.told (c.regions_beside.ensures.regions ∙ c.requires.same) c.in_ok-flows.ensures

pub returns-clause-certified : goal.returns-clause-certified
returns-clause-certified c =
    subst (λ (q : Parts). IsPartsVerdict q Good) (sym (returns-clause-parts c)) c.requires.good
