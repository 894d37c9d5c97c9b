use Rattle.std.proofs.lemmas.Result.{on_ok_weaker}
use Rattle.raster_model.specs.Masks.{open_at}
use Rattle.raster_model.specs.Scene.{raster_of}
use Rattle.seam_regions.specs.Regions.{region_label}
use Rattle.certificates.specs.TileSets.{solved_cycles}
use Rattle.offset_network.proofs.PlaceLemmas.{adds_both}
use Rattle.offset_network.proofs.links.push_links_from.Goals as goal

pub returns : goal.returns
returns c =
    let k = c.args.surface.now in
    on_ok_weaker c.push_link-2.result
    (λ second. adds_both (raster_of k.scene.now) (open_at k.mask.now) (region_label c.args.regions.now) c.args.regions.now.count (solved_cycles k.scene.now k.tiles.now.results) c.args.x c.args.y c.args.links.now.items c.push_link.new.links.items c.push_link-2.new.links.items c.in_ok-push_link.ensures second)
    c.push_link-2.ensures
