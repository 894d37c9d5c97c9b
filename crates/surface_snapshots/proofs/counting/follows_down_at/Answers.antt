use Rattle.std.proofs.Common.{◌∙◌, sym}
use Rattle.raster_model.specs.Raster.{lifted}
use Rattle.raster_model.specs.Scene.{raster_of}
use Rattle.surface_snapshots.proofs.FreeLemmas.{is_nothing, down_there}
use Rattle.surface_snapshots.proofs.counting.follows_down_at.Goals as goal

pub returns-else-y-scene : goal.returns-else-y-scene
returns-else-y-scene g c t l =
    let r = raster_of c.args.scene.now in
    let S = lifted r (g.H.Heights.cycles_at c.args.heights.now) in
    down_there r S c.args.x c.args.y (sym c.departure.ensures.value ∙ is_nothing c.departure.result (record { sfits = c.departure.type_inv }) t)
