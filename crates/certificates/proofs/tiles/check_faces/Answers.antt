use Rattle.std.proofs.Common.{◌≡◌, subst, sym}
use Rattle.raster_model.specs.Cells.{IsCertifiedTile}
use Rattle.raster_model.specs.Heights.{KnowsOpenOf}
use Rattle.raster_model.specs.Masks.{open_at}
use Rattle.raster_model.specs.Raster.{Raster, lifted}
use Rattle.raster_model.specs.Scene.{raster_of}
use Rattle.raster_model.specs.Tiles.{IsTileWindow}
use Rattle.raster_model.proofs.TileLemmas.{scene_window}
use Rattle.certificates.specs.Verdicts.{IsFacesVerdict}
use Rattle.certificates.specs.declared.verdicts.TileVerdict.TheVariants.{Good}
use Rattle.certificates.proofs.CutLemmas.{cut_is}
use Rattle.certificates.proofs.VerdictLemmas.{faces_say}
use Rattle.certificates.proofs.tiles.check_faces.Goals as goal

pub invariant_of-tile : goal.invariant_of-tile
invariant_of-tile g c =
    let s = c.args.scene.now in
    let m = c.args.mask.now in
    record {
      same_size = subst (λ (r : Raster). (m.width ≡ r.width) × (m.height ≡ r.height)) (sym c.sheet.ensures.raster) c.requires.same_size;
      pixels = subst (λ (r : Raster). IsTileWindow r c.args.tile c.window-window.result) (sym (cut_is s c.sheet.result c.sheet.ensures.raster)) (scene_window s c.args.tile c.window-window.result c.window-window.ensures.pixels);
    }

pub check-requires : goal.check-requires
check-requires g c = record { known = subst (λ (r : Raster). KnowsOpenOf r (open_at c.args.mask.now) c.args.tile (g.H.Heights.knows c.args.heights.now)) (sym (cut_is c.args.scene.now c.sheet.result c.sheet.ensures.raster)) c.requires.known }

pub returns-in-Ok : goal.returns-in-Ok
returns-in-Ok g c =
    let s = c.args.scene.now in
    let mask = open_at c.args.mask.now in
    let cycles = g.H.Heights.cycles_at c.args.heights.now in
    faces_say (raster_of s) mask c.args.tile (lifted (raster_of s) cycles) c.args.faces.now Good
    (subst (λ (r : Raster). IsCertifiedTile r mask c.args.tile (lifted r cycles) c.args.faces.now) (cut_is s c.sheet.result c.sheet.ensures.raster) c.in-Ok.ensures.certified.0)

pub returns-in-Err : goal.returns-in-Err
returns-in-Err g c =
    let s = c.args.scene.now in
    let mask = open_at c.args.mask.now in
    let cycles = g.H.Heights.cycles_at c.args.heights.now in
    faces_say (raster_of s) mask c.args.tile (lifted (raster_of s) cycles) c.args.faces.now c.in-Err.verdict
    (subst (λ (r : Raster). IsFacesVerdict r mask c.args.tile (lifted r cycles) c.args.faces.now c.in-Err.verdict) (cut_is s c.sheet.result c.sheet.ensures.raster) c.in-Err.ensures.refused.0)
