use Rattle.raster_model.specs.Masks.{open_at}
use Rattle.raster_model.specs.Scene.{raster_of}
use Rattle.certificates.specs.TileSets.{solved_cycles}
use Rattle.offset_network.proofs.MovedLemmas.{moved_seams}
use Rattle.offset_network.proofs.solving.over_links.Goals as goal

pub by_network-requires-clause-seams : goal.by_network-requires-clause-seams
by_network-requires-clause-seams c =
    let k = c.args.surface.now in
    let start = c.in_ok-start-in-Dropped.start in
    moved_seams (raster_of k.scene.now) (open_at k.mask.now) c.args.regions.now (solved_cycles k.scene.now k.tiles.now.results) start.offsets.items c.args.links.items start.links.items c.requires.seams c.in_ok-start-in-Dropped.ensures.moved
