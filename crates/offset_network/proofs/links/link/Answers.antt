use Rattle.raster_model.specs.Masks.{open_at}
use Rattle.raster_model.specs.Scene.{raster_of}
use Rattle.raster_model.specs.Sums.{at_edge_start, at_edge_end}
use Rattle.seam_regions.specs.Regions.{region_label}
use Rattle.seam_regions.proofs.CallerLemmas.{regions_of_scene}
use Rattle.certificates.specs.TileSets.{solved_cycles}
use Rattle.offset_network.proofs.PlaceLemmas.{departure_is, link_fits, link_made, reads_ends}
use Rattle.offset_network.proofs.links.link.Goals as goal
use Rattle.std.proofs.lemmas.Bool.{and_from}

pub departure-requires-clause-open_ends : goal.departure-requires-clause-open_ends
departure-requires-clause-open_ends c =
    let reads = reads_ends c.args.surface.now.scene.now c.args.surface.now.mask.now c.args.regions.now c.args.edge _ _ c.in_ok-from.from c.in_ok-to.to c.requires.regions c.requires.seam c.end_x.ensures c.end_y.ensures c.in_ok-from.ensures c.in_ok-to.ensures in
    and_from (at_edge_start (open_at c.args.surface.now.mask.now) c.args.edge) (at_edge_end (open_at c.args.surface.now.mask.now) c.args.edge) reads.start reads.end

pub returns-clause-value : goal.returns-clause-value
returns-clause-value c =
    let k = c.args.surface.now in
    let s = k.scene.now in
    let reads = reads_ends c.args.surface.now.scene.now c.args.surface.now.mask.now c.args.regions.now c.args.edge _ _ c.in_ok-from.from c.in_ok-to.to c.requires.regions c.requires.seam c.end_x.ensures c.end_y.ensures c.in_ok-from.ensures c.in_ok-to.ensures in
    link_made (raster_of s) (open_at k.mask.now) (region_label c.args.regions.now) (solved_cycles s k.tiles.now.results) c.args.edge c.in_ok-from.from c.in_ok-to.to c.weight.result _ reads c.weight.ensures (departure_is c.departure.result _ c.departure.ensures.value c.departure.ensures.small).0

pub returns-clause-fits : goal.returns-clause-fits
returns-clause-fits c = λ k q. (
    let s = c.args.surface.now.scene.now in
    let m = c.args.surface.now.mask.now in
    let v = c.args.regions.now in
    let reads = reads_ends c.args.surface.now.scene.now c.args.surface.now.mask.now c.args.regions.now c.args.edge _ _ c.in_ok-from.from c.in_ok-to.to c.requires.regions c.requires.seam c.end_x.ensures c.end_y.ensures c.in_ok-from.ensures c.in_ok-to.ensures in
    link_fits (raster_of s) (open_at m) (region_label v) v.count c.args.edge c.in_ok-from.from c.in_ok-to.to c.weight.result _ k (regions_of_scene s m v c.requires.regions).labelling c.requires.seam reads c.weight.type_inv (departure_is c.departure.result _ c.departure.ensures.value c.departure.ensures.small).1 q)
