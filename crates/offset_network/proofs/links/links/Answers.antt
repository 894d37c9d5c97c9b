use Rattle.std.proofs.lemmas.Result.{IfOk-weaker}
use Rattle.raster_model.specs.Masks.{open_at}
use Rattle.raster_model.specs.Scene.{raster_of}
use Rattle.seam_regions.specs.Regions.{region_label}
use Rattle.certificates.specs.TileSets.{solved_cycles}
use Rattle.offset_network.proofs.StripLemmas.{links_fit, whole_strip}
use Rattle.offset_network.proofs.links.links.Goals as goal

pub returns-clause-seams : goal.returns-clause-seams
returns-clause-seams c =
    let k = c.args.surface.now in
    IfOk-weaker c.strip_links.result _ _ (λ links is. whole_strip (raster_of k.scene.now) (open_at k.mask.now) (region_label c.args.regions.now) (solved_cycles k.scene.now k.tiles.now.results) links.items is.seams) c.strip_links.ensures

pub returns-clause-fit : goal.returns-clause-fit
returns-clause-fit c =
    let k = c.args.surface.now in
    IfOk-weaker c.strip_links.result _ _ (λ links is. links_fit k.scene.now (open_at k.mask.now) (region_label c.args.regions.now) (solved_cycles k.scene.now k.tiles.now.results) c.args.regions.now.count links.items is.seams is.join c.requires.regions.few) c.strip_links.ensures
