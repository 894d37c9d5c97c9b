use Rattle.std.proofs.Common.{◌∙◌, ap, subst, sym}
use Rattle.raster_model.specs.MaskView.{MaskView}
use Rattle.seam_regions.specs.RegionsView.{RegionsView}
use Rattle.surface_snapshots.specs.Loops.{GoTogether}
use Rattle.surface_snapshots.specs.Tiled.{mask_told}
use Rattle.surface_snapshots.proofs.ShiftedLemmas.{go_together}
use Rattle.surface_snapshots.proofs.costs.shifted.Goals as goal

pub invariant_of-result : goal.invariant_of-result
invariant_of-result c =
    let s = c.args.session.now.scene in
    let same = c.requires.same in
    record {
      tiling = c.requires.tiling;
      places = c.requires.places;
      together =
          subst (λ (v : RegionsView). GoTogether s (mask_told v) v c.args.tiles.now.results) (sym same)
          (subst (λ (m : MaskView). GoTogether s m c.args.regions.now c.args.tiles.now.results) c.told_by.ensures
          (go_together s c.args.mask.now c.args.regions.now c.requires.across c.requires.along c.requires.regions c.args.tiles.now.results c.requires.tiles));
      count = c.requires.count ∙ sym (ap (λ (v : RegionsView). v.count) same);
      near = c.requires.near;
    }
