use Rattle.std.proofs.Common.{◌≡◌, ℕ, ◌∙◌, ap, sym, subst, arith, below_more, List, ℤ}
use Rattle.raster_model.specs.Cells.{IsCertifiedTile}
use Rattle.raster_model.specs.Raster.{Raster}
use Rattle.certificates.specs.Verdicts.{IsFacesVerdict}
use Rattle.report_text.specs.Contents.{lists_of}
use Rattle.report_check.specs.Shown.{open_shown, raster_shown, told_shown}
use Rattle.report_check.specs.Verdicts.{surface_shown}
use Rattle.report_check.proofs.ShownLemmas.{faces_read}
use Rattle.report_check.proofs.shown.ShownSurface.first_unfit_tile.Goals as goal

pub loop-tile-preserved : goal.loop-tile-preserved
loop-tile-preserved c =
    let s = c.args.self.now in
    let lists = s.told.now.faces in
    let t = c.loop-tile.tile in
    let read : c.deref.result.now ≡ lists_of lists.items t = c.deref.ensures.value ∙ sym (faces_read lists.items t c.index-faces.result.now (omega (arith, c.loop-tile-test.true, c.tile_count-tile-end.ensures.count, s.one_each, lists.ok.0)) c.index-faces.ensures) in
    let S = surface_shown (raster_shown s) (told_shown s) in
    let e = c.values-values.ensures in
    let width = ap (λ (r : Raster). r.width) s.raster ∙ sym s.grid_size.0 in
    below_more (λ (t : ℕ). IsCertifiedTile (raster_shown s) (open_shown s) t S (lists_of lists.items t)) t c.loop-tile.invariant
    (subst (λ (faces : List ℤ). IsCertifiedTile (raster_shown s) (open_shown s) t S faces) read ((rw (e.sheet, e.values, width) at c.check_faces.ensures.good).0 c.in-Good.is))

pub returns-in_default-clause-found : goal.returns-in_default-clause-found
returns-in_default-clause-found c =
    let s = c.args.self.now in
    let lists = s.told.now.faces in
    let t = c.loop-tile.tile in
    let read : c.deref.result.now ≡ lists_of lists.items t = c.deref.ensures.value ∙ sym (faces_read lists.items t c.index-faces.result.now (omega (arith, c.loop-tile-test.true, c.tile_count-tile-end.ensures.count, s.one_each, lists.ok.0)) c.index-faces.ensures) in
    let S = surface_shown (raster_shown s) (told_shown s) in
    let e = c.values-values.ensures in
    let width = ap (λ (r : Raster). r.width) s.raster ∙ sym s.grid_size.0 in
    record {
      exists = omega (arith, c.loop-tile-test.true, c.tile_count-tile-end.ensures.count);
      before = c.loop-tile.invariant;
      verdict_is = subst (λ (faces : List ℤ). IsFacesVerdict (raster_shown s) (open_shown s) t S faces c.check_faces.result) read (rw (e.sheet, e.values, width) at c.check_faces.ensures.verdict);
      not_good = c.in_default.not-Good;
    }
