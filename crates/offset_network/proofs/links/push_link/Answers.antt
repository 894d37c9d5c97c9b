use Rattle.std.proofs.Common.{◌∙◌, subst, sym, List}
use Rattle.std.specs.Prelude.{Option}
use Rattle.raster_model.specs.Masks.{open_at}
use Rattle.raster_model.specs.Scene.{raster_of}
use Rattle.seam_regions.specs.Regions.{region_label}
use Rattle.offset_guess.specs.declared.link.Link.{Link}
use Rattle.offset_network.specs.Seams.{AddsLink}
use Rattle.certificates.specs.TileSets.{solved_cycles}
use Rattle.offset_network.proofs.PlaceLemmas.{adds_link}
use Rattle.offset_network.proofs.links.push_link.Goals as goal

pub returns-in_ok-push : goal.returns-in_ok-push
returns-in_ok-push c =
    let k = c.args.surface.now in
    subst (λ (new : List (Option Link)). AddsLink (raster_of k.scene.now) (open_at k.mask.now) (region_label c.args.regions.now) c.args.regions.now.count (solved_cycles k.scene.now k.tiles.now.results) c.args.edge c.args.links.now.items new) (sym {A = List (Option Link)} c.in_ok-push.ensures.items)
    (adds_link (raster_of k.scene.now) (open_at k.mask.now) (region_label c.args.regions.now) c.args.regions.now.count (solved_cycles k.scene.now k.tiles.now.results) c.args.edge c.args.links.now.items c.link.result (sym c.is_seam_edge.ensures ∙ c.if-is_seam_edge.true) c.link.ensures.value c.link.ensures.fits)
